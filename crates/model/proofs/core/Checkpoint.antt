-- A checkpoint: memory and journal are flushed, then the pointer moves up to what is in doubt.
use Rattle.std.proofs.Common.{◌≡◌, ℕ, ◌-◌, ◌<◌, ◌≤◌, Bool, true, false, cond, ◌⊎◌, List, [], ◌∷◌, sym, refl, ap, ◌∙◌, subst, inl, inr, ⊎_elim, arith}
use Rattle.std.specs.List.{AllByRecursion as All}
use Rattle.std.proofs.lemmas.Bool.{both_ways, cases_lt}
use Rattle.model.proofs.core.Lists.{Some, Pairs, all_map, some_map, some_all, pairs_map}
use Rattle.model.proofs.core.State.{Book, absent, Entry, up, Node, with_pointer, State, Write, memory_flush, journal_flush, write, write_all, outcome_made_durable, replay, serial, state_with_node}
use Rattle.model.proofs.core.Facts.{EntryRight, Extends, extends_trans}
use Rattle.model.proofs.core.Agreement.{Durable, Agreement, absent_not_durable, all_absent_past}
use Rattle.model.proofs.core.NodeChange as change
use Rattle.model.proofs.core.NodeChange.{NodeChange}
use Rattle.model.proofs.core.NodeChangeMemories as changed
use Rattle.model.proofs.core.NodeChangeMemories.{MemoryChange}
use Rattle.model.proofs.core.Outcomes.{outcomes_all, outcomes_some, outcomes_pairs, made_durable_absent, not_absent_durable}
use Rattle.model.proofs.core.Replay.{Counts, replay_leaves, replay_further}
use Rattle.model.proofs.core.Memories.{Before, Owes, Serving, Memories, Invariant}
use Rattle.model.proofs.core.KeptEntries.{KeptEntries, kept, kept_extends}
use Rattle.model.proofs.core.Writes.{nothing_written, write_all_kept}
use Rattle.model.proofs.core.Again.{node_here, node_again}

-- ## The pointer moves at a node that is up, whose memory is flushed

module _ {V : Type 0} (B : Book V) (s : State V) (i : Invariant B s) (q : ℕ) where
  abbrev k : Node V
  k = s.nodes q

  abbrev v : Agreement B s
  v = i.agreement

  abbrev w : Memories B s
  w = i.memories

  module _ (p : ℕ) (low : k.pointer ≤ p) (high : p ≤ k.given) (durable : All (λ e. e.number ≤ p → Durable e.outcome) k.entries)
      (up_here : k.condition ≡ up) (flushed : (b : ℕ) → k.written b ≡ false) where
    point_change : NodeChange B s q (with_pointer k p)
    point_change = record {
      forced_kept = λ _ z. z;
      pointer_given = high;
      entries_right = all_map (EntryRight B s q) _ (λ e o. (o.wrote, o.participant, o.low, o.right)) k.entries (v.entries q);
      settled_kept = λ n a. all_map _ _ (λ e z t. omega (arith, z t)) k.entries a;
      stands_kept = λ n z. inl z;
      durable_behind = durable;
    }

    sorted : Pairs (λ e f. e.number < f.number) k.entries
    sorted = pairs_map (Before B s q) _ (λ e f z. z.0) k.entries (w.order q)

    replayed_counts : (b : ℕ) → Some (Counts B q p b s.past.log) k.entries → serial B s q b ≡ replay B s.past.log q p b k.entries (k.memory b)
    replayed_counts b h = w.replayed q b ∙ sym (replay_further B q b s.past.log k.pointer p low k.entries sorted h (k.memory b) (k.memory b))

    replayed_shown : (b : ℕ) → k.memory b ≡ serial B s q b → (replay B s.past.log q p b k.entries (k.memory b) ≡ k.memory b) ⊎ Some (Counts B q p b s.past.log) k.entries
        → serial B s q b ≡ replay B s.past.log q p b k.entries (k.memory b)
    replayed_shown b m (inl h) = sym (h ∙ m)
    replayed_shown b m (inr h) = replayed_counts b h

    -- what is owed lies past the new pointer too
    owed_counts : (b : ℕ) → Some (Owes B s q b) k.entries → Some (Counts B q p b s.past.log) k.entries
    owed_counts b = some_all _ _ _ (λ e z o. (⊎_elim (λ y. y) (λ y. absurd (absent_not_durable e.outcome o.0 (z y))) (cases_lt p e.number), o.1, o.2)) k.entries durable

    point_memories : MemoryChange B s q (with_pointer k p)
    point_memories = record {
      order = w.order q;
      replayed = λ b. ⊎_elim (λ m. replayed_shown b m (replay_leaves B q p b s.past.log k.entries (k.memory b))) (λ y. replayed_counts b (owed_counts b y)) ((w.serving q up_here).shows b);
      written_redone = λ b h. absurd (both_ways (k.written b) (flushed b) h);
      serving = λ _. record { shows = (w.serving q up_here).shows; locks = (w.serving q up_here).locks };
    }

    pub pointed : Invariant B (state_with_node s q (with_pointer k p))
    pointed = record { agreement = change.agreement B s v q (with_pointer k p) point_change; memories = changed.memories B s v w q (with_pointer k p) point_change point_memories }

    pub pointed_extends : Extends B s (state_with_node s q (with_pointer k p))
    pointed_extends = change.extends B s v q (with_pointer k p) point_change

-- ## Where the pointer goes

-- one less than the oldest entry that a test finds in doubt, or the highest running number given
unfoldable pub pointer_kept_at : (Entry → Bool) → ℕ → List Entry → ℕ
pointer_kept_at t g [] = g
pointer_kept_at t g (e ∷ es) = cond (t e) (e.number - 1) (pointer_kept_at t g es)

-- the test finds what has no outcome
abbrev pub Finds : (Entry → Bool) → List Entry → Type 0
Finds t es = All (λ e. (t e ≡ true → e.outcome ≡ absent) × (t e ≡ false → e.outcome ≡ absent → ⊥)) es

checkpoint_low : (t : Entry → Bool) (g p : ℕ) (es : List Entry) → p ≤ g → Finds t es → All (λ e. e.outcome ≡ absent → p < e.number) es → p ≤ pointer_kept_at t g es
unfolding pointer_kept_at
checkpoint_low t g p [] l f h = l
checkpoint_low t g p (e ∷ es) l f h = go (t e) refl (checkpoint_low t g p es l f.1 h.1)
  where
    go : (c : Bool) → t e ≡ c → p ≤ pointer_kept_at t g es → p ≤ cond c (e.number - 1) (pointer_kept_at t g es)
    go true r j = let z : p ≤ e.number - 1 = omega (arith, h.0 (f.0.0 r)) in z
    go false r j = j

checkpoint_high : (t : Entry → Bool) (g : ℕ) (es : List Entry) → All (λ e. e.number ≤ g) es → pointer_kept_at t g es ≤ g
unfolding pointer_kept_at
checkpoint_high t g [] h = omega arith
checkpoint_high t g (e ∷ es) h = go (t e) (checkpoint_high t g es h.1)
  where
    go : (c : Bool) → pointer_kept_at t g es ≤ g → cond c (e.number - 1) (pointer_kept_at t g es) ≤ g
    go true j = let z : e.number - 1 ≤ g = omega (arith, h.0) in z
    go false j = j

checkpoint_behind : (t : Entry → Bool) (g p : ℕ) (es : List Entry) → Pairs (λ e f. e.number < f.number) es → Finds t es → All (λ e. e.outcome ≡ absent → p < e.number) es
    → All (λ e. e.number ≤ pointer_kept_at t g es → e.outcome ≡ absent → ⊥) es
unfolding pointer_kept_at
checkpoint_behind t g p [] o f h = tt
checkpoint_behind t g p (e ∷ es) o f h = go (t e) refl (checkpoint_behind t g p es o.1 f.1 h.1)
  where
    go : (c : Bool) → t e ≡ c → All (λ d. d.number ≤ pointer_kept_at t g es → d.outcome ≡ absent → ⊥) es
        → (e.number ≤ cond c (e.number - 1) (pointer_kept_at t g es) → e.outcome ≡ absent → ⊥) × All (λ d. d.number ≤ cond c (e.number - 1) (pointer_kept_at t g es) → d.outcome ≡ absent → ⊥) es
    go true r j =
        let this : e.number ≤ e.number - 1 → ⊥ = λ l. omega (arith, l, h.0 (f.0.0 r)) in
        let that : (d : Entry) → e.number < d.number → d.number ≤ e.number - 1 → ⊥ = λ d a l. omega (arith, a, l) in
        ((λ l _. this l), all_map _ _ (λ d a l _. that d a l) es o.0)
    go false r j = ((λ _ b. f.0.1 r b), j)

-- ## The whole checkpoint

module _ {V : Type 0} (B : Book V) (s : State V) (i : Invariant B s) (q : ℕ) (t : Entry → Bool) (finds : Finds t (s.nodes q).entries) (up_here : (s.nodes q).condition ≡ up) where
  abbrev c : Node V
  c = s.nodes q

  abbrev pub flushes : List (Write V)
  flushes = memory_flush ∷ journal_flush ∷ []

  abbrev f : Node V
  f = write_all c flushes

  abbrev s' : State V
  s' = state_with_node s q f

  abbrev p : ℕ
  p = pointer_kept_at t c.given c.entries

  -- at its end
  abbrev pub checkpointed_node : Node V
  checkpointed_node = with_pointer f p

  here : s'.nodes q ≡ f
  here = node_here s q f

  flush_kept : KeptEntries B s q f
  flush_kept = write_all_kept B s i q c flushes (tt, (tt, tt)) (nothing_written B s i q)

  flush_serves : Serving B s q f
  unfolding write_all write
  flush_serves = record {
    shows = λ b. ⊎_elim inl (λ y. inr (outcomes_some (λ e. outcome_made_durable e.outcome) (Owes B s q b) c.entries (some_map _ _ (λ e z. (rw z.0 refl, z.1, z.2)) c.entries y))) ((i.memories.serving q up_here).shows b);
    locks = outcomes_pairs (λ e. outcome_made_durable e.outcome) _ c.entries (pairs_map _ _ (λ e d a n z. a n (made_durable_absent e.outcome z)) c.entries (i.memories.serving q up_here).locks);
  }

  i' : Invariant B s'
  i' = kept B s i q f flush_kept (λ _. flush_serves)

  x' : Extends B s s'
  x' = kept_extends B s i q f flush_kept

  far : All (λ e. e.outcome ≡ absent → c.pointer < e.number) c.entries
  far = all_absent_past B s i.agreement q

  low : f.pointer ≤ p
  unfolding write_all write
  low = checkpoint_low t c.given c.pointer c.entries (i.agreement.pointer_given q) finds far

  high : p ≤ f.given
  unfolding write_all write
  high = checkpoint_high t c.given c.entries (all_map (EntryRight B s q) _ (λ e z. z.low) c.entries (i.agreement.entries q))

  durable : All (λ e. e.number ≤ p → Durable e.outcome) f.entries
  unfolding write_all write
  durable = outcomes_all (λ e. outcome_made_durable e.outcome) _ c.entries (all_map _ _ (λ e g l. not_absent_durable e.outcome (g l)) c.entries
      (checkpoint_behind t c.given c.pointer c.entries (pairs_map (Before B s q) _ (λ e d z. z.0) c.entries (i.memories.order q)) finds far))

  up' : f.condition ≡ up
  unfolding write_all write
  up' = up_here

  flushed : (b : ℕ) → f.written b ≡ false
  unfolding write_all write
  flushed b = refl

  target : state_with_node s' q (with_pointer (s'.nodes q) p) ≡ state_with_node s q checkpointed_node
  target = node_again s q f (with_pointer (s'.nodes q) p) ∙ ap (λ (m : Node V). state_with_node s q (with_pointer m p)) here

  pub checkpointed : Invariant B (state_with_node s q checkpointed_node)
  checkpointed = subst (Invariant B) target (pointed B s' i' q p (rw here low) (rw here high) (rw here durable) (rw here up') (λ b. rw here (flushed b)))

  pub checkpointed_extends : Extends B s (state_with_node s q checkpointed_node)
  checkpointed_extends = subst (Extends B s) target (extends_trans B s s' _ x' (pointed_extends B s' i' q p (rw here low) (rw here high) (rw here durable) (rw here up') (λ b. rw here (flushed b))))
