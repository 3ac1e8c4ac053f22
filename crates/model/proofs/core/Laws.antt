-- The three laws, read off the invariant.
use Rattle.std.proofs.Common.{◌≡◌, ℕ, Bool, true, false, List, [], ◌∷◌, sym, refl, ◌∙◌, subst, inl, inr, ⊎_elim}
use Rattle.std.specs.List.{AllByRecursion as All}
use Rattle.std.proofs.lemmas.Bool.{both_ways}
use Rattle.model.proofs.core.Lists.{Some, has, all_map, all_some, every_has}
use Rattle.model.proofs.core.State.{Book, Lawful, puts, effect, absent, present, up, State, committed, after, serial, serial_run, has_voted_yes, saw_at}
use Rattle.model.proofs.core.Facts.{Committed, Known, OutcomeRight, EntryRight, known_committed}
use Rattle.model.proofs.core.Memories.{Owes, Legal, Invariant}

module _ {V : Type 0} (B : Book V) (s : State V) (i : Invariant B s) where
  -- ## Agreement

  -- an outcome that stands at a node is known for good
  pub outcome_known : (q n : ℕ) (c d : Bool) → Some (λ e. (e.tid ≡ n) × (e.outcome ≡ present c d)) (s.nodes q).entries → Known B s n c
  outcome_known q n c d = all_some (EntryRight B s q) _ (Known B s n c)
      (λ e o h. subst (λ m. Known B s m c) h.0 (subst (OutcomeRight B s e.tid) h.1 o.right)) (s.nodes q).entries (i.agreement.entries q)

  -- what is known of one minitransaction is one thing
  pub known_alike : (n : ℕ) (a b : Bool) → Known B s n a → Known B s n b → a ≡ b
  known_alike n a b h k = sym (known_committed B s n a h) ∙ known_committed B s n b k

  -- outcomes at any two nodes are equal
  pub outcomes_agree : (p q n : ℕ) (a b c d : Bool) → Some (λ e. (e.tid ≡ n) × (e.outcome ≡ present a c)) (s.nodes p).entries → Some (λ e. (e.tid ≡ n) × (e.outcome ≡ present b d)) (s.nodes q).entries → a ≡ b
  outcomes_agree p q n a b c d x y = known_alike n a b (outcome_known p n a c x) (outcome_known q n b d y)

  -- and every verdict ever given, outcome or decision, is whether all participants voted yes
  pub verdicts_agree : All (λ v. committed B s.past.log v.tid ≡ v.committed) s.past.verdicts
  verdicts_agree = all_map _ _ (λ v. known_committed B s v.tid v.committed) s.past.verdicts i.agreement.verdicts

  pub outcome_committed : (q n : ℕ) (c d : Bool) → Some (λ e. (e.tid ≡ n) × (e.outcome ≡ present c d)) (s.nodes q).entries → committed B s.past.log n ≡ c
  outcome_committed q n c d x = known_committed B s n c (outcome_known q n c d x)

  -- ## Shown bytes

  -- a node that is up shows the serial run's byte where no minitransaction in doubt writes it
  pub shows_serial_lem : (q b : ℕ) → (s.nodes q).condition ≡ up → All (λ e. e.outcome ≡ absent → puts (effect B e.tid q b) ≡ false) (s.nodes q).entries → (s.nodes q).memory b ≡ serial B s q b
  shows_serial_lem q b u h = ⊎_elim (λ z. z) (λ y. absurd (all_some _ (Owes B s q b) ⊥ (λ e a o. both_ways (puts (effect B e.tid q b)) (a o.0) o.2) (s.nodes q).entries h y)) ((i.memories.serving q u).shows b)

  -- ## Serial comparisons and reads

  -- of a run, the latest first: each finds its comparisons true, and what it looks at is what its nodes saw
  abbrev pub SerialFits : List ℕ → Type 0
  SerialFits [] = Unit {0}
  SerialFits (n ∷ ns) =
      ((q : ℕ) → has q (B n).participants ≡ true
      → ((B n).agrees q (after B s.past.made ns q) ≡ true) × ((b : ℕ) → (B n).looks q b ≡ true → saw_at s n q b ≡ after B s.past.made ns q b))
      × SerialFits ns

  pub serial_fits : Lawful B → SerialFits (serial_run B s.past.log)
  serial_fits law = go (serial_run B s.past.log) i.memories.legal (λ n x. i.memories.run_committed n x)
    where
      go : (ns : List ℕ) → Legal B s ns → ((n : ℕ) → Some (λ m. m ≡ n) ns → Committed B s n) → SerialFits ns
      go [] l c = tt
      go (n ∷ ns) l c = (
        (λ q h. (
          sym (law.agrees_by_looks n q (saw_at s n q) (after B s.past.made ns q) (λ b r. l.0 q b h r))
              ∙ i.memories.seen_agrees n q (every_has (has_voted_yes s n) (B n).participants q (c n (inl refl)) h),
          λ b r. l.0 q b h r,
        )),
        go ns l.1 (λ m x. c m (inr x)),
      )

  -- each committed one that any node voted on has its turn
  pub committed_has_turn : (n q : ℕ) → has_voted_yes s n q ≡ true → Committed B s n → Some (λ m. m ≡ n) (serial_run B s.past.log)
  committed_has_turn = i.memories.committed_run
