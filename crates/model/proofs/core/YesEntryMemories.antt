-- A node writes its yes entry: the memories' invariant stays. This is the one move that lengthens the serial run.
use Rattle.std.proofs.Common.{◌≡◌, ℕ, suc, ◌<◌, true, false, cond, ltb, ◌⊎◌, List, [], ◌∷◌, ◌++◌, sym, refl, ap, ◌∙◌, inl, inr, ⊎_elim, arith}
use Rattle.std.specs.List.{AllByRecursion as All}
use Rattle.std.proofs.lemmas.Bool.{cases_eq, cases_Bool, both_ways, lt-ltb}
use Rattle.model.proofs.core.Lists.{update_same, update_other, update_both, Some, Pairs, has, every_has, every_same, all_map, all_each, all_some, some_left, some_push, some_map, pairs_push, pairs_map, pairs_two, not_so}
use Rattle.model.proofs.core.State.{Book, applied, puts, effect, Conflict, Outcome, absent, present, Entry, Node, with_new_entry, entry_to_add, up, Yes, logged, committed, serial_run, after, replay, State, has_voted_yes, saw_at, serial, accept}
use Rattle.model.proofs.core.Facts.{Committed, OutcomeRight, EntryRight, Extends, committed_stays, dead_not_committed}
use Rattle.model.proofs.core.Log.{same_yes, more, logged_here, logged_other}
use Rattle.model.proofs.core.Log as log
use Rattle.model.proofs.core.Agreement.{Agreement, Undecided, undecided_stands, standing_participant}
use Rattle.model.proofs.core.YesEntry as yes
use Rattle.model.proofs.core.YesEntry.{CanVoteYes, extends, not_yet}
use Rattle.model.proofs.core.Replay.{turn, Counts, applied_keep, replay_push, replay_same, replay_commit}
use Rattle.model.proofs.core.Memories.{Before, Owes, Redone, Legal, Memories}

module _ {V : Type 0} (B : Book V) (s : State V) (v : Agreement B s) (w : Memories B s) (i n q : ℕ) (g : CanVoteYes B s i n q) (up_here : (s.nodes q).condition ≡ up) where
  abbrev t : State V
  t = accept s i n q

  abbrev k : Node V
  k = with_new_entry (s.nodes q) n

  abbrev L : List (Yes V)
  L = s.past.log

  abbrev L' : List (Yes V)
  L' = more L n q (s.nodes q).memory

  abbrev new : Entry
  new = entry_to_add (s.nodes q) n

  fresh : has_voted_yes s n q ≡ false
  fresh = not_so (has_voted_yes s n q) (not_yet B s v i n q g)

  x : Extends B s t
  x = extends B s v i n q g

  participant : has q (B n).participants ≡ true
  participant = (yes.opened B s v i n q g).1

  here : t.nodes q ≡ k
  here = update_same s.nodes q k

  there : (p : ℕ) → (p ≡ q → ⊥) → t.nodes p ≡ s.nodes p
  there p h = update_other s.nodes q k p h

  -- ## Who is committed

  voted_other : (m p : ℕ) → (m ≡ n → p ≡ q → ⊥) → has_voted_yes t m p ≡ has_voted_yes s m p
  voted_other = logged_other L n q (s.nodes q).memory

  not_committed : Committed B s n → ⊥
  not_committed c = not_yet B s v i n q g (every_has (has_voted_yes s n) (B n).participants q c participant)

  not_committed_before : committed B L n ≡ false
  not_committed_before = not_so (committed B L n) not_committed

  committed_other : (m : ℕ) → (m ≡ n → ⊥) → committed B L' m ≡ committed B L m
  committed_other m h = every_same (logged L' m) (logged L m) (λ p. voted_other m p (λ e _. h e)) (B m).participants

  committed_same : committed B L' n ≡ false → (m : ℕ) → committed B L' m ≡ committed B L m
  committed_same h m = go (cases_eq m n)
    where
      go : ((m ≡ n) ⊎ (m ≡ n → ⊥)) → committed B L' m ≡ committed B L m
      go (inl e) = rw e (h ∙ sym not_committed_before)
      go (inr e) = committed_other m e

  undecided_before : committed B L' n ≡ true → Undecided B s n
  undecided_before c = ((λ d. dead_not_committed B t n (x.dead n d) c), not_committed)

  undecided_back : (m : ℕ) → Undecided B t m → Undecided B s m
  undecided_back m u = ((λ d. u.0 (x.dead m d)), (λ c. u.1 (committed_stays B s t x m c)))

  -- n has no entry at node p while it has not voted yes there
  strange : (p : ℕ) → has_voted_yes s n p ≡ false → All (λ e. e.tid ≡ n → ⊥) (s.nodes p).entries
  strange p y = all_map (EntryRight B s p) (λ e. e.tid ≡ n → ⊥) (λ e o h. both_ways (has_voted_yes s n p) y (rw h at o.wrote)) (s.nodes p).entries (v.entries p)

  entries_same : (p : ℕ) → has_voted_yes s n p ≡ false → All (λ e. committed B L' e.tid ≡ committed B L e.tid) (s.nodes p).entries
  entries_same p y = all_map _ (λ e. committed B L' e.tid ≡ committed B L e.tid) (λ e h. committed_other e.tid h) (s.nodes p).entries (strange p y)

  -- ## The order of entries

  new_last : All (λ e. Before B s q e new) (s.nodes q).entries
  new_last = go (s.nodes q).entries (v.entries q) (strange q fresh) g.apart
    where
      decided : (e : Entry) (o : Outcome) → e.outcome ≡ o → OutcomeRight B s e.tid o → (e.outcome ≡ absent → Conflict B q e.tid n → ⊥) → Conflict B q e.tid n → Undecided B s e.tid → ⊥
      decided e absent p h a c u = a p c
      decided e (present true d) p h a c u = u.1 h
      decided e (present false d) p h a c u = u.0 h

      go : (es : List Entry) → All (EntryRight B s q) es → All (λ e. e.tid ≡ n → ⊥) es → All (λ e. e.outcome ≡ absent → Conflict B q e.tid n → ⊥) es
          → All (λ e. Before B s q e new) es
      go [] a b c = tt
      go (e ∷ es) a b c = ((omega (arith, a.0.low), b.0, decided e e.outcome refl a.0.right c.0), go es a.1 b.1 c.1)

  before_kept : (p : ℕ) (e f : Entry) → Before B s p e f → Before B t p e f
  before_kept p e f h = (h.0, h.1, λ c u. h.2 c (undecided_back e.tid u))

  order' : (p : ℕ) → Pairs (Before B t p) (t.nodes p).entries
  order' p = pairs_map (Before B s p) (Before B t p) (before_kept p) (t.nodes p).entries
      (update_both (λ p' k'. Pairs (Before B s p') k'.entries) s.nodes q k (pairs_push (Before B s q) (s.nodes q).entries _ (w.order q) new_last) (λ p' _. w.order p') p)

  -- ## The serial run

  run_more : committed B L' n ≡ true → serial_run B L' ≡ n ∷ serial_run B L
  unfolding serial_run
  run_more c = rw (c, not_committed_before) refl

  run_same : committed B L' n ≡ false → serial_run B L' ≡ serial_run B L
  unfolding serial_run
  run_same c = rw c refl

  serial_same : committed B L' n ≡ false → (p b : ℕ) → serial B t p b ≡ serial B s p b
  serial_same h p b = rw (run_same h) refl

  serial_more : committed B L' n ≡ true → (p b : ℕ) → serial B t p b ≡ cond (has p (B n).participants) (applied (effect B n p b) (serial B s p b)) (serial B s p b)
  unfolding after
  serial_more h p b = rw (run_more h) refl

  -- it changes only where n, committed now, writes
  serial_moves : (p b : ℕ) → (serial B t p b ≡ serial B s p b) ⊎ ((committed B L' n ≡ true) × (has p (B n).participants ≡ true) × (puts (effect B n p b) ≡ true))
  serial_moves p b = go (cases_Bool (committed B L' n)) (cases_Bool (has p (B n).participants)) (cases_Bool (puts (effect B n p b)))
    where
      go : ((committed B L' n ≡ true) ⊎ (committed B L' n ≡ false)) → ((has p (B n).participants ≡ true) ⊎ (has p (B n).participants ≡ false)) → ((puts (effect B n p b) ≡ true) ⊎ (puts (effect B n p b) ≡ false))
          → (serial B t p b ≡ serial B s p b) ⊎ ((committed B L' n ≡ true) × (has p (B n).participants ≡ true) × (puts (effect B n p b) ≡ true))
      go (inr c) h f = inl (serial_same c p b)
      go (inl c) (inr h) f = inl (serial_more c p b ∙ rw h refl)
      go (inl c) (inl h) (inr f) = inl (serial_more c p b ∙ rw h (applied_keep (effect B n p b) f (serial B s p b)))
      go (inl c) (inl h) (inl f) = inr (c, h, f)

  voted_there : committed B L' n ≡ true → (p : ℕ) → (p ≡ q → ⊥) → has p (B n).participants ≡ true → has_voted_yes s n p ≡ true
  voted_there c p h z = sym (voted_other n p (λ _. h)) ∙ every_has (logged L' n) (B n).participants p c z

  -- ## The memories

  replayed_here : (b : ℕ) → serial B t q b ≡ replay B L' q (s.nodes q).pointer b ((s.nodes q).entries ++ new ∷ []) ((s.nodes q).memory b)
  replayed_here b =
      go (cases_Bool (committed B L' n))
      ∙ ap (turn B q (s.nodes q).pointer b L' new) (w.replayed q b ∙ sym (replay_same B q (s.nodes q).pointer b L L' (s.nodes q).entries (entries_same q fresh) ((s.nodes q).memory b)))
      ∙ sym (replay_push B q (s.nodes q).pointer b L' (s.nodes q).entries new ((s.nodes q).memory b))
    where
      past : ltb (s.nodes q).pointer (suc (s.nodes q).given) ≡ true
      past = lt-ltb (s.nodes q).pointer (suc (s.nodes q).given) (omega (arith, v.pointer_given q))

      go : ((committed B L' n ≡ true) ⊎ (committed B L' n ≡ false)) → serial B t q b ≡ turn B q (s.nodes q).pointer b L' new (serial B s q b)
      go (inl c) = serial_more c q b ∙ rw (participant, past, c) refl
      go (inr c) = serial_same c q b ∙ rw (past, c) refl

  last_word : committed B L' n ≡ true → (p b : ℕ) (e f : Entry) → Before B s p e f → (e.tid ≡ f.tid → ⊥) × (e.tid ≡ n → puts (effect B n p b) ≡ true → puts (effect B f.tid p b) ≡ false)
  last_word c p b e f h = (h.1, λ r pn. not_so (puts (effect B f.tid p b)) (λ pf. h.2 (b, inl (rw r pn, inl pf)) (rw r (undecided_before c))))

  replayed_there : (p : ℕ) → (p ≡ q → ⊥) → (b : ℕ) → serial B t p b ≡ replay B L' p (s.nodes p).pointer b (s.nodes p).entries ((s.nodes p).memory b)
  replayed_there p h b = go (cases_Bool (committed B L' n)) (cases_Bool (has_voted_yes s n p))
    where
      go : ((committed B L' n ≡ true) ⊎ (committed B L' n ≡ false)) → ((has_voted_yes s n p ≡ true) ⊎ (has_voted_yes s n p ≡ false)) → serial B t p b ≡ replay B L' p (s.nodes p).pointer b (s.nodes p).entries ((s.nodes p).memory b)
      go (inr c) y = serial_same c p b ∙ w.replayed p b ∙ sym (replay_same B p (s.nodes p).pointer b L L' (s.nodes p).entries (all_each _ (λ e. committed_same c e.tid) (s.nodes p).entries) ((s.nodes p).memory b))
      go (inl c) (inr y) =
          let no_part : has p (B n).participants ≡ false = not_so (has p (B n).participants) (λ z. both_ways (has_voted_yes s n p) y (voted_there c p h z)) in
          serial_more c p b ∙ rw no_part (w.replayed p b ∙ sym (replay_same B p (s.nodes p).pointer b L L' (s.nodes p).entries (entries_same p y) ((s.nodes p).memory b)))
      go (inl c) (inl y) =
          let st = undecided_stands B s v n p (undecided_before c) y in
          let is_part : has p (B n).participants ≡ true = standing_participant B s v n p (some_map _ _ (λ e z. z.0) (s.nodes p).entries st) in
          serial_more c p b ∙ rw is_part (ap (applied (effect B n p b)) (w.replayed p b)
          ∙ sym (replay_commit B p (s.nodes p).pointer b L L' n not_committed_before c committed_other (s.nodes p).entries
          (pairs_map (Before B s p) _ (last_word c p b) (s.nodes p).entries (w.order p))
          (some_map _ _ (λ e z. (z.0, z.1)) (s.nodes p).entries st) ((s.nodes p).memory b)))

  replayed' : (p b : ℕ) → serial B t p b ≡ replay B L' p (t.nodes p).pointer b (t.nodes p).entries ((t.nodes p).memory b)
  replayed' p b = go (cases_eq p q)
    where
      go : ((p ≡ q) ⊎ (p ≡ q → ⊥)) → serial B t p b ≡ replay B L' p (t.nodes p).pointer b (t.nodes p).entries ((t.nodes p).memory b)
      go (inl e) = rw (e, here) (replayed_here b)
      go (inr e) = rw (there p e) (replayed_there p e b)

  counts_kept : (p r b : ℕ) (e : Entry) → Counts B p r b L e → Counts B p r b L' e
  counts_kept p r b e h = (h.0, committed_stays B s t x e.tid h.1, h.2)

  written_redone' : (p b : ℕ) → (t.nodes p).written b ≡ true → Redone B t p b
  written_redone' p b = update_both (λ p' k'. k'.written b ≡ true → Some (Counts B p' k'.pointer b L') k'.entries) s.nodes q k
      (λ h. some_left _ (s.nodes q).entries _ (some_map _ _ (counts_kept q (s.nodes q).pointer b) (s.nodes q).entries (w.written_redone q b h)))
      (λ p' _ h. some_map _ _ (counts_kept p' (s.nodes p').pointer b) (s.nodes p').entries (w.written_redone p' b h)) p

  owes_kept : (p b : ℕ) (e : Entry) → Owes B s p b e → Owes B t p b e
  owes_kept p b e h = (h.0, committed_stays B s t x e.tid h.1, h.2)

  shows' : (b p : ℕ) → (t.nodes p).condition ≡ up → ((t.nodes p).memory b ≡ serial B t p b) ⊎ Some (Owes B t p b) (t.nodes p).entries
  shows' b = update_both (λ p k'. k'.condition ≡ up → (k'.memory b ≡ serial B t p b) ⊎ Some (Owes B t p b) k'.entries) s.nodes q k
      (λ o. ⊎_elim
      (λ r. ⊎_elim (λ m. inl (m ∙ sym r)) (λ y. inr (some_left _ (s.nodes q).entries _ (some_map _ _ (owes_kept q b) (s.nodes q).entries y))) ((w.serving q o).shows b))
      (λ c. inr (some_push _ (s.nodes q).entries new (refl, c.0, c.2))) (serial_moves q b))
      (λ p h o. ⊎_elim
      (λ r. ⊎_elim (λ m. inl (m ∙ sym r)) (λ y. inr (some_map _ _ (owes_kept p b) (s.nodes p).entries y)) ((w.serving p o).shows b))
      (λ c. inr (some_map _ _ (λ e z. (z.2, rw z.0 c.0, rw z.0 c.2)) (s.nodes p).entries (undecided_stands B s v n p (undecided_before c.0) (voted_there c.0 p h c.1)))) (serial_moves p b))

  locks' : (p : ℕ) → (t.nodes p).condition ≡ up → Pairs (λ e f. Conflict B p e.tid f.tid → e.outcome ≡ absent → ⊥) (t.nodes p).entries
  locks' = update_both (λ p k'. k'.condition ≡ up → Pairs (λ e f. Conflict B p e.tid f.tid → e.outcome ≡ absent → ⊥) k'.entries) s.nodes q k
      (λ o. pairs_push _ (s.nodes q).entries _ (w.serving q o).locks (all_map _ _ (λ e a c o'. a o' c) (s.nodes q).entries g.apart))
      (λ p _ o. (w.serving p o).locks)

  -- ## What was seen

  -- what n looks at here is the run's
  looked_here : (b : ℕ) → (B n).looks q b ≡ true → (s.nodes q).memory b ≡ serial B s q b
  looked_here b r = ⊎_elim (λ m. m) (λ y. absurd (all_some _ (Owes B s q b) ⊥ (λ e a o. a o.0 (b, inl (o.2, inr r))) (s.nodes q).entries g.apart y)) ((w.serving q up_here).shows b)

  -- a byte that an undecided one looked at does not change in the run
  looked_kept : (m p b : ℕ) → has_voted_yes s m p ≡ true → Undecided B t m → (B m).looks p b ≡ true → serial B t p b ≡ serial B s p b
  looked_kept m p b y u r = ⊎_elim (λ z. z) (λ c. absurd (go c (cases_eq p q))) (serial_moves p b)
    where
      go : (committed B L' n ≡ true) × (has p (B n).participants ≡ true) × (puts (effect B n p b) ≡ true) → ((p ≡ q) ⊎ (p ≡ q → ⊥)) → ⊥
      go c (inl e) =
          all_some _ _ ⊥ (λ f a z. a z.2 (rw z.0 (b, inr (rw (← e) c.2, rw (← e) r)))) (s.nodes q).entries g.apart
          (rw e at (undecided_stands B s v m p (undecided_back m u) y))
      go c (inr e) =
          pairs_two (Before B s p) (λ f. (f.tid ≡ m) × ((s.nodes p).pointer < f.number) × (f.outcome ≡ absent)) (λ f. (f.tid ≡ n) × ((s.nodes p).pointer < f.number) × (f.outcome ≡ absent)) ⊥
          (λ f z l. u.1 (rw (sym z.0 ∙ l.0) c.0))
          (λ f h a z l. a.2 (rw (z.0, l.0) (b, inr (c.2, r))) (rw z.0 (undecided_back m u)))
          (λ f h a z l. a.2 (rw (z.0, l.0) (b, inl (c.2, inr r))) (rw z.0 (undecided_before c.0)))
          (s.nodes p).entries (w.order p)
          (undecided_stands B s v m p (undecided_back m u) y) (undecided_stands B s v n p (undecided_before c.0) (voted_there c.0 p e c.1))

  seen_here : saw_at t n q ≡ (s.nodes q).memory
  seen_here = log.seen_here L n q (s.nodes q).memory s.past.made

  seen_other : (m p : ℕ) → (m ≡ n → p ≡ q → ⊥) → saw_at t m p ≡ saw_at s m p
  seen_other = log.seen_other L n q (s.nodes q).memory s.past.made

  seen_serial' : (m p b : ℕ) → has_voted_yes t m p ≡ true → Undecided B t m → (B m).looks p b ≡ true → saw_at t m p b ≡ serial B t p b
  seen_serial' m p b y u r = go (same_yes n q m p)
    where
      go : (((m ≡ n) × (p ≡ q)) ⊎ (m ≡ n → p ≡ q → ⊥)) → saw_at t m p b ≡ serial B t p b
      go (inl e) =
          let c : committed B L' n ≡ false = not_so (committed B L' n) (rw e.0 at u.1) in
          rw (e.0, e.1, seen_here, serial_same c q b) (looked_here b (rw (e.0, e.1) at r))
      go (inr e) =
          let y' : has_voted_yes s m p ≡ true = rw (voted_other m p e) at y in
          rw (seen_other m p e) (w.seen_serial m p b y' (undecided_back m u) r ∙ sym (looked_kept m p b y' u r))

  seen_agrees' : (m p : ℕ) → has_voted_yes t m p ≡ true → (B m).agrees p (saw_at t m p) ≡ true
  seen_agrees' m p y = go (same_yes n q m p)
    where
      go : (((m ≡ n) × (p ≡ q)) ⊎ (m ≡ n → p ≡ q → ⊥)) → (B m).agrees p (saw_at t m p) ≡ true
      go (inl e) = rw (e.0, e.1, seen_here) g.matched
      go (inr e) = rw (seen_other m p e) (w.seen_agrees m p (rw (voted_other m p e) at y))

  -- ## The run grows by n

  legal_old : (ns : List ℕ) → All (λ m. m ≡ n → ⊥) ns → Legal B s ns → Legal B t ns
  legal_old [] a l = tt
  legal_old (m ∷ ns) a l = ((λ p b h r. rw (seen_other m p (λ e _. a.0 e)) (l.0 p b h r)), legal_old ns a.1 l.1)

  none_is : (ns : List ℕ) → (Some (λ m. m ≡ n) ns → ⊥) → All (λ m. m ≡ n → ⊥) ns
  none_is [] h = tt
  none_is (m ∷ ns) h = ((λ e. h (inl e)), none_is ns (λ e. h (inr e)))

  n_not_run : All (λ m. m ≡ n → ⊥) (serial_run B L)
  n_not_run = none_is (serial_run B L) (λ e. not_committed (w.run_committed n e))

  legal' : Legal B t (serial_run B L')
  legal' = go (cases_Bool (committed B L' n))
    where
      old : Legal B t (serial_run B L)
      old = legal_old (serial_run B L) n_not_run w.legal

      looked : committed B L' n ≡ true → (p b : ℕ) → has p (B n).participants ≡ true → (B n).looks p b ≡ true → ((p ≡ q) ⊎ (p ≡ q → ⊥)) → saw_at t n p b ≡ serial B s p b
      looked c p b h r (inl e) = rw (e, seen_here) (looked_here b (rw e at r))
      looked c p b h r (inr e) = rw (seen_other n p (λ _. e)) (w.seen_serial n p b (voted_there c p e h) (undecided_before c) r)

      go : ((committed B L' n ≡ true) ⊎ (committed B L' n ≡ false)) → Legal B t (serial_run B L')
      go (inl c) = rw (run_more c) ((λ p b h r. looked c p b h r (cases_eq p q)), old)
      go (inr c) = rw (run_same c) old

  run_distinct' : Pairs (λ a b. a ≡ b → ⊥) (serial_run B L')
  run_distinct' = go (cases_Bool (committed B L' n))
    where
      go : ((committed B L' n ≡ true) ⊎ (committed B L' n ≡ false)) → Pairs (λ a b. a ≡ b → ⊥) (serial_run B L')
      go (inl c) = rw (run_more c) (all_map (λ m. m ≡ n → ⊥) (λ m. n ≡ m → ⊥) (λ m a e. a (sym e)) (serial_run B L) n_not_run, w.run_distinct)
      go (inr c) = rw (run_same c) w.run_distinct

  run_committed' : (m : ℕ) → Some (λ a. a ≡ m) (serial_run B L') → Committed B t m
  run_committed' m = go (cases_Bool (committed B L' n))
    where
      go : ((committed B L' n ≡ true) ⊎ (committed B L' n ≡ false)) → Some (λ a. a ≡ m) (serial_run B L') → Committed B t m
      go (inl c) = rw (run_more c) (⊎_elim (λ e. rw (← e) c) (λ e. committed_stays B s t x m (w.run_committed m e)))
      go (inr c) = rw (run_same c) (λ e. committed_stays B s t x m (w.run_committed m e))

  committed_run' : (m p : ℕ) → has_voted_yes t m p ≡ true → Committed B t m → Some (λ a. a ≡ m) (serial_run B L')
  committed_run' m p y c = go (cases_eq m n) (cases_Bool (committed B L' n))
    where
      go : ((m ≡ n) ⊎ (m ≡ n → ⊥)) → ((committed B L' n ≡ true) ⊎ (committed B L' n ≡ false)) → Some (λ a. a ≡ m) (serial_run B L')
      go (inl e) (inl d) = rw (run_more d) (inl (sym e))
      go (inl e) (inr d) = absurd (both_ways (committed B L' n) d (rw e at c))
      go (inr e) d =
          let old = w.committed_run m p (rw (voted_other m p (λ z _. e z)) at y) (sym (committed_other m e) ∙ c) in
          ⊎_elim (λ z. rw (run_more z) (inr old)) (λ z. rw (run_same z) old) d

  pub memories : Memories B t
  memories = record {
    order = order';
    replayed = replayed';
    written_redone = written_redone';
    serving = λ p o. record { shows = λ b. shows' b p o; locks = locks' p o };
    seen_serial = seen_serial';
    seen_agrees = seen_agrees';
    legal = legal';
    run_distinct = run_distinct';
    run_committed = run_committed';
    committed_run = committed_run';
  }
