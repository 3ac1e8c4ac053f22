-- The oldest entry is dropped: it is dead, or durably applied at every participant.
use Rattle.std.proofs.Common.{◌≡◌, ℕ, ◌≤◌, Bool, true, false, cond, ◌&&◌, ltb, ◌⊎◌, List, ◌∷◌, sym, refl, ap, ◌∙◌, subst, inl, inr, ⊎_elim, arith}
use Rattle.std.specs.List.{AllByRecursion as All}
use Rattle.std.proofs.lemmas.Bool.{le-ltb}
use Rattle.model.proofs.core.Lists.{Some, Pairs, has, all_map, not_so}
use Rattle.model.proofs.core.State.{Book, applied, effect, Conflict, Outcome, absent, present, Entry, Node, node_with_entries, says_settled, State, committed, replay, serial, state_with_node}
use Rattle.model.proofs.core.Facts.{Committed, Dead, Settled, Over, Ended, Justified, OutcomeRight, EntryRight, Extends, dead_not_committed}
use Rattle.model.proofs.core.Agreement.{Durable, Agreement, absent_not_durable}
use Rattle.model.proofs.core.NodeChange as change
use Rattle.model.proofs.core.NodeChange.{NodeChange}
use Rattle.model.proofs.core.NodeChangeMemories as changed
use Rattle.model.proofs.core.NodeChangeMemories.{MemoryChange}
use Rattle.model.proofs.core.Replay.{turn, Counts}
use Rattle.model.proofs.core.Memories.{Before, Owes, Memories, Invariant}

module _ {V : Type 0} (B : Book V) (s : State V) (i : Invariant B s) (q : ℕ) (e : Entry) (es : List Entry) (oldest : (s.nodes q).entries ≡ e ∷ es) where
  abbrev k : Node V
  k = s.nodes q

  abbrev v : Agreement B s
  v = i.agreement

  abbrev w : Memories B s
  w = i.memories

  at : (P : List Entry → Type 0) → P k.entries → P (e ∷ es)
  at P h = rw oldest at h

  -- ## Why it may go

  abbrev pub Droppable : Type 0
  Droppable = Dead B s e.tid ⊎ ((e.number ≤ k.pointer) × Over B s e.tid)

  own_settled : e.number ≤ k.pointer → Settled B s e.tid q
  own_settled l = subst (All (λ f. f.tid ≡ e.tid → f.number ≤ k.pointer)) (sym oldest) ((λ _. l), all_map _ _ (λ f b r. absurd (b.1 (sym r))) es (at (Pairs (Before B s q)) (w.order q)).0)

  -- its outcome is no, or it is at or before the pointer and every other participant has acknowledged it
  pub droppable_no : (d : Bool) → e.outcome ≡ present false d → Droppable
  droppable_no d r = inl (subst (OutcomeRight B s e.tid) r (at (All (EntryRight B s q)) (v.entries q)).0.right)

  pub droppable_settled : e.number ≤ k.pointer → ((p : ℕ) → has p (B e.tid).participants ≡ true → (p ≡ q) ⊎ Justified B s (says_settled e.tid p)) → Droppable
  droppable_settled l others = go e.outcome refl (at (All (EntryRight B s q)) (v.entries q)).0.right
    where
      other : Committed B s e.tid → (p : ℕ) → (p ≡ q) ⊎ Justified B s (says_settled e.tid p) → Settled B s e.tid p
      other c p (inl r) = subst (Settled B s e.tid) (sym r) (own_settled l)
      other c p (inr (inl d)) = absurd (dead_not_committed B s e.tid d c)
      other c p (inr (inr z)) = z.1

      go : (o : Outcome) → e.outcome ≡ o → OutcomeRight B s e.tid o → Droppable
      go (present false d) r h = inl h
      go (present true d) r h = inr (l, (h, λ p y. other h p (others p y)))
      go absent r h = absurd (absent_not_durable e.outcome r ((at (All (λ f. f.number ≤ k.pointer → Durable f.outcome)) (v.durable_behind q)).0 l))

  -- ## The drop

  module _ (why : Droppable) where
    drop_change : NodeChange B s q (node_with_entries k es)
    drop_change = record {
      forced_kept = λ _ z. z;
      pointer_given = v.pointer_given q;
      entries_right = all_map (EntryRight B s q) _ (λ f o. (o.wrote, o.participant, o.low, o.right)) es (at (All (EntryRight B s q)) (v.entries q)).1;
      settled_kept = λ n a. (at (All (λ f. f.tid ≡ n → f.number ≤ k.pointer)) a).1;
      stands_kept = λ n z. ⊎_elim (λ r. inr (rw r at ended)) inl (at (Some (λ f. f.tid ≡ n)) z);
      durable_behind = (at (All (λ f. f.number ≤ k.pointer → Durable f.outcome)) (v.durable_behind q)).1;
    }
      where
        ended : Ended B s e.tid
        ended = ⊎_elim inl (λ h. inr h.1) why

    idle : (b : ℕ) (x : V) → turn B q k.pointer b s.past.log e x ≡ x
    idle b x = go why
      where
        go : Droppable → turn B q k.pointer b s.past.log e x ≡ x
        go (inl d) = rw (not_so (committed B s.past.log e.tid) (dead_not_committed B s e.tid d)) (both (ltb k.pointer e.number))
          where
            both : (c : Bool) → cond (c && false) (applied (effect B e.tid q b) x) x ≡ x
            both true = refl
            both false = refl
        go (inr h) = rw (le-ltb k.pointer e.number h.0) refl

    not_counts : (b : ℕ) → Counts B q k.pointer b s.past.log e → ⊥
    not_counts b h = ⊎_elim (λ d. dead_not_committed B s e.tid d h.1) (λ z. omega (arith, z.0, h.0)) why

    not_owed : (b : ℕ) → Owes B s q b e → ⊥
    not_owed b h = ⊎_elim (λ d. dead_not_committed B s e.tid d h.1) (λ z. absent_not_durable e.outcome h.0 ((at (All (λ f. f.number ≤ k.pointer → Durable f.outcome)) (v.durable_behind q)).0 z.0)) why

    drop_memories : MemoryChange B s q (node_with_entries k es)
    unfolding replay
    drop_memories = record {
      order = (at (Pairs (Before B s q)) (w.order q)).1;
      replayed = λ b. at (λ z. serial B s q b ≡ replay B s.past.log q k.pointer b z (k.memory b)) (w.replayed q b) ∙ ap (replay B s.past.log q k.pointer b es) (idle b (k.memory b));
      written_redone = λ b h. ⊎_elim (λ z. absurd (not_counts b z)) (λ z. z) (at (Some (Counts B q k.pointer b s.past.log)) (w.written_redone q b h));
      serving = λ o. record {
        shows = λ b. ⊎_elim inl (λ y. ⊎_elim (λ z. absurd (not_owed b z)) inr (at (Some (Owes B s q b)) y)) ((w.serving q o).shows b);
        locks = (at (Pairs (λ a f. Conflict B q a.tid f.tid → a.outcome ≡ absent → ⊥)) (w.serving q o).locks).1;
      };
    }

    pub dropped : Invariant B (state_with_node s q (node_with_entries k es))
    dropped = record { agreement = change.agreement B s v q (node_with_entries k es) drop_change; memories = changed.memories B s v w q (node_with_entries k es) drop_change drop_memories }

    pub dropped_extends : Extends B s (state_with_node s q (node_with_entries k es))
    dropped_extends = change.extends B s v q (node_with_entries k es) drop_change
