-- A resume, whole: every entry past the pointer gets its outcome, and in journal order those of yes are written again.
use Rattle.std.proofs.Common.{◌≡◌, ℕ, ◌<◌, Bool, true, false, cond, ◌&&◌, eqb, ltb, List, [], ◌∷◌, ◌++◌, take, sym, refl, ap, ◌∙◌, subst, inl, ⊎_elim, arith}
use Rattle.std.specs.List.{AllByRecursion as All}
use Rattle.std.proofs.lemmas.Bool.{both_ways, cases_lt, cond_both, eqb-true, eq-eqb, ltb-true, ltb-false}
use Rattle.model.proofs.core.Lists.{Some, all_map, all_two, all_append, all_self, some_map, pairs_first}
use Rattle.model.proofs.core.State.{Book, Effect, applied, puts, effect, Outcome, absent, present, Entry, up, down, Node, in_condition, Yes, State, Write, note, write, write_all, write_items, noted, committed, replay, state_with_node}
use Rattle.model.proofs.core.Facts.{Known, Extends, known_committed}
use Rattle.model.proofs.core.Agreement.{absent_not_durable}
use Rattle.model.proofs.core.Outcomes.{outcomes_all, noted_absent}
use Rattle.model.proofs.core.Replay.{turn, Counts}
use Rattle.model.proofs.core.Memories.{Redone, Serving, Invariant}
use Rattle.model.proofs.core.KeptEntries.{KeptEntries, kept, kept_extends}
use Rattle.model.proofs.core.Writes.{Allowed, nothing_written, write_all_kept, condition_kept, torn_budget, write_all_items, write_all_append, all_items}
use Rattle.model.proofs.core.Finish.{InDoubt, Names, doubt_only}

-- names the entries of a tid
abbrev pub of_tid : ℕ → ℕ → ℕ → Bool
of_tid n r m = eqb m n

pub of_tid_names : (n : ℕ) (es : List Entry) → Names (of_tid n) n es
of_tid_names n [] = tt
of_tid_names n (e ∷ es) = ((eqb-true e.tid n, eq-eqb e.tid n), of_tid_names n es)

abbrev pub is_absent : Outcome → Bool
is_absent absent = true
is_absent (present v d) = false

pub absent_is : (o : Outcome) → is_absent o ≡ true → o ≡ absent
absent_is absent h = refl
absent_is (present v d) h = cc

-- what is done for one entry, d telling the outcome that the node has come to
abbrev pub redo : {V : Type 0} → Book V → ℕ → (Entry → Bool) → ℕ → Entry → List (Write V)
redo B q d p e =
    cond (ltb p e.number)
    (cond (is_absent e.outcome) (note (of_tid e.tid) (d e) ∷ []) [] ++ cond (d e) (write_items ((B e.tid).writes q)) [])
    []

unfoldable pub redo_all : {V : Type 0} → Book V → ℕ → (Entry → Bool) → ℕ → List Entry → List (Write V)
redo_all B q d p [] = []
redo_all B q d p (e ∷ es) = redo B q d p e ++ redo_all B q d p es

module _ {V : Type 0} (B : Book V) (s : State V) (i : Invariant B s) (q : ℕ) (d : Entry → Bool)
    (known : All (λ e. (s.nodes q).pointer < e.number → Known B s e.tid (d e)) (s.nodes q).entries) where
  abbrev k : Node V
  k = s.nodes q

  abbrev L : List (Yes V)
  L = s.past.log

  -- the outcome that the node has come to is the right one
  abbrev Sure : Entry → Type 0
  Sure e = k.pointer < e.number → Known B s e.tid (d e)

  -- ## The writes are justified

  redone_by : (e : Entry) (b : ℕ) → Some (λ f. f ≡ e) k.entries → k.pointer < e.number → committed B L e.tid ≡ true → puts (effect B e.tid q b) ≡ true → Redone B s q b
  redone_by e b j l c p = some_map _ _ (λ f r. subst (Counts B q k.pointer b L) (sym r) (l, c, p)) k.entries j

  note_allowed : (e : Entry) → Some (λ f. f ≡ e) k.entries → e.outcome ≡ absent → Known B s e.tid (d e) → Allowed B s i q (note (of_tid e.tid) (d e))
  note_allowed e j a h = all_map _ _ (λ f z r. let u = eqb-true f.tid e.tid r in (subst (λ m. Known B s m (d e)) (sym u) h, λ y. absent_not_durable f.outcome (z u) y)) k.entries (doubt_only B s i q e.tid doubt)
    where
      doubt : InDoubt e.tid k.entries
      doubt = some_map _ _ (λ f r. (ap (λ (g : Entry). g.tid) r, ap (λ (g : Entry). g.outcome) r ∙ a)) k.entries j

  redo_allowed : (e : Entry) → Some (λ f. f ≡ e) k.entries → Sure e → All (Allowed B s i q) (redo B q d k.pointer e)
  redo_allowed e j su = cond_both (ltb k.pointer e.number) _ _ (All (Allowed B s i q)) (λ l. past (ltb-true k.pointer e.number l)) (λ _. tt)
    where
      past : k.pointer < e.number → All (Allowed B s i q) (cond (is_absent e.outcome) (note (of_tid e.tid) (d e) ∷ []) [] ++ cond (d e) (write_items ((B e.tid).writes q)) [])
      past l = all_append _ _ _
          (cond_both (is_absent e.outcome) _ _ (All (Allowed B s i q)) (λ a. (note_allowed e j (absent_is e.outcome a) (su l), tt)) (λ _. tt))
          (cond_both (d e) _ _ (All (Allowed B s i q))
          (λ y. all_items _ ((B e.tid).writes q) (λ u h b z. redone_by e b j l (subst (Known B s e.tid) y (su l)) (h b z)))
          (λ _. tt))

  redo_all_allowed : (es : List Entry) → All (λ e. Some (λ f. f ≡ e) k.entries) es → All Sure es → All (Allowed B s i q) (redo_all B q d k.pointer es)
  unfolding redo_all
  redo_all_allowed [] j u = tt
  redo_all_allowed (e ∷ es) j u = all_append _ _ _ (redo_allowed e j.0 u.0) (redo_all_allowed es j.1 u.1)

  abbrev pub resume_writes : List (Write V)
  resume_writes = redo_all B q d k.pointer k.entries

  pub resume_allowed : All (Allowed B s i q) resume_writes
  resume_allowed = redo_all_allowed k.entries (all_self k.entries) known

  -- power fails on the way
  pub resume_torn : (f : ℕ) → Invariant B (state_with_node s q (in_condition down (write_all k (take f resume_writes))))
  resume_torn f = torn_budget B s i q f resume_writes resume_allowed

  -- ## The bytes that a whole replay leaves

  note_memory : (m : Node V) (c : Bool) (t : ℕ → ℕ → Bool) (v : Bool) → (write_all m (cond c (note t v ∷ []) [])).memory ≡ m.memory
  unfolding write_all write
  note_memory m true t v = refl
  note_memory m false t v = refl

  redo_memory : (m : Node V) (e : Entry) → Sure e → (b : ℕ) → (write_all m (redo B q d k.pointer e)).memory b ≡ turn B q k.pointer b L e (m.memory b)
  unfolding write_all
  redo_memory m e su b = go (ltb k.pointer e.number) refl (d e) refl
    where
      go : (l : Bool) → ltb k.pointer e.number ≡ l → (g : Bool) → d e ≡ g
          → (write_all m (cond l (cond (is_absent e.outcome) (note (of_tid e.tid) g ∷ []) [] ++ cond g (write_items ((B e.tid).writes q)) []) [])).memory b
          ≡ cond (l && committed B L e.tid) (applied (effect B e.tid q b) (m.memory b)) (m.memory b)
      go false l g r = refl
      go true l true r =
          let c : committed B L e.tid ≡ true = known_committed B s e.tid true (subst (Known B s e.tid) r (su (ltb-true k.pointer e.number l))) in
          let m₁ = write_all m (cond (is_absent e.outcome) (note (of_tid e.tid) true ∷ []) []) in
          rw (c, write_all_append m (cond (is_absent e.outcome) (note (of_tid e.tid) true ∷ []) []) (write_items ((B e.tid).writes q)), write_all_items m₁ ((B e.tid).writes q), note_memory m (is_absent e.outcome) (of_tid e.tid) true) refl
      go true l false r =
          let c : committed B L e.tid ≡ false = known_committed B s e.tid false (subst (Known B s e.tid) r (su (ltb-true k.pointer e.number l))) in
          rw (c, write_all_append m (cond (is_absent e.outcome) (note (of_tid e.tid) false ∷ []) []) []) (ap (λ (f : ℕ → V). f b) (note_memory m (is_absent e.outcome) (of_tid e.tid) false))

  redo_all_memory : (m : Node V) (es : List Entry) → All Sure es → (b : ℕ) → (write_all m (redo_all B q d k.pointer es)).memory b ≡ replay B L q k.pointer b es (m.memory b)
  unfolding redo_all replay write_all
  redo_all_memory m [] u b = refl
  redo_all_memory m (e ∷ es) u b =
      ap (λ (n : Node V). n.memory b) (write_all_append m (redo B q d k.pointer e) (redo_all B q d k.pointer es))
      ∙ redo_all_memory (write_all m (redo B q d k.pointer e)) es u.1 b
      ∙ ap (replay B L q k.pointer b es) (redo_memory m e u.0 b)

  -- ## It leaves no entry without an outcome

  -- what has no outcome yet has its turn still to come
  abbrev Due : List Entry → Entry → Type 0
  Due es f = f.outcome ≡ absent → Some (λ e. (e.tid ≡ f.tid) × (is_absent e.outcome ≡ true) × (k.pointer < e.number)) es

  items_entries : (m : Node V) (c : Bool) (ws : List (ℕ → Effect V)) → (write_all m (cond c (write_items ws) [])).entries ≡ m.entries
  unfolding write_all
  items_entries m true ws = ap (λ (n : Node V). n.entries) (write_all_items m ws)
  items_entries m false ws = refl

  redo_due : (m : Node V) (e : Entry) (es : List Entry) → All (Due (e ∷ es)) m.entries → All (Due es) (write_all m (redo B q d k.pointer e)).entries
  unfolding write_all write
  redo_due m e es h = go (ltb k.pointer e.number) refl (is_absent e.outcome) refl (d e)
    where
      skip : ((is_absent e.outcome ≡ true) → (k.pointer < e.number) → ⊥) → All (Due es) m.entries
      skip bad = all_map (Due (e ∷ es)) (Due es) (λ f l z. ⊎_elim (λ y. absurd (bad y.1 y.2)) (λ y. y) (l z)) m.entries h

      go : (l : Bool) → ltb k.pointer e.number ≡ l → (a : Bool) → is_absent e.outcome ≡ a → (g : Bool)
          → All (Due es) (write_all m (cond l (cond a (note (of_tid e.tid) g ∷ []) [] ++ cond g (write_items ((B e.tid).writes q)) []) [])).entries
      go false l a r g = skip (λ _ p. omega (arith, ltb-false k.pointer e.number l))
      go true l false r g = rw (items_entries m g ((B e.tid).writes q)) (skip (λ y _. both_ways (is_absent e.outcome) r y))
      go true l true r g =
          rw (items_entries (write m (note (of_tid e.tid) g)) g ((B e.tid).writes q))
          (outcomes_all (noted (of_tid e.tid) g) (Due es) m.entries
          (all_map (Due (e ∷ es)) _
          (λ f a z. let u = noted_absent (eqb f.tid e.tid) g f.outcome z in
          ⊎_elim (λ y. absurd (both_ways (eqb f.tid e.tid) u.0 (eq-eqb f.tid e.tid (sym y.0)))) (λ y. y) (a u.1))
          m.entries h))

  redo_all_due : (m : Node V) (es : List Entry) → All (Due es) m.entries → All (Due []) (write_all m (redo_all B q d k.pointer es)).entries
  unfolding redo_all write_all
  redo_all_due m [] h = h
  redo_all_due m (e ∷ es) h =
      subst (λ (n : Node V). All (Due []) n.entries) (sym (write_all_append m (redo B q d k.pointer e) (redo_all B q d k.pointer es)))
      (redo_all_due (write_all m (redo B q d k.pointer e)) es (redo_due m e es h))

  at_first : All (Due k.entries) k.entries
  at_first = all_two _ _ _ (λ e j f z. some_map _ _ (λ g r. (ap (λ (a : Entry). a.tid) r, rw (r, z) refl, ⊎_elim (λ l. rw r l) (λ l. absurd (absent_not_durable e.outcome z (f l))) (cases_lt k.pointer e.number))) k.entries j)
      k.entries (all_self k.entries) (i.agreement.durable_behind q)

  -- ## The node serves again

  abbrev pub resumed_node : Node V
  resumed_node = in_condition up (write_all k resume_writes)

  resume_serves : Serving B s q resumed_node
  resume_serves = record {
    shows = λ b. inl (redo_all_memory k k.entries known b ∙ sym (i.memories.replayed q b));
    locks = pairs_first (Due []) _ (λ e f a _ z. a z) (write_all k resume_writes).entries (redo_all_due k k.entries at_first);
  }

  resume_kept : KeptEntries B s q resumed_node
  resume_kept = condition_kept B s i q (write_all k resume_writes) up (write_all_kept B s i q k resume_writes resume_allowed (nothing_written B s i q))

  pub resumed : Invariant B (state_with_node s q resumed_node)
  resumed = kept B s i q resumed_node resume_kept (λ _. resume_serves)

  pub resumed_extends : Extends B s (state_with_node s q resumed_node)
  resumed_extends = kept_extends B s i q resumed_node resume_kept

  -- nothing is in doubt at a node that resumed
  pub resumed_outcomes : All (λ e. e.outcome ≡ absent → ⊥) resumed_node.entries
  resumed_outcomes = all_map (Due []) _ (λ e a z. a z) resumed_node.entries (redo_all_due k k.entries at_first)
