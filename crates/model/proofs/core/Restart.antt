-- Power goes, and comes back: bytes written since the last flush may be anything, pending outcomes may be lost.
use Rattle.std.proofs.Common.{◌≡◌, ℕ, Bool, true, false, [], refl, subst, inl, inr, ⊎_elim, arith}
use Rattle.std.specs.List.{AllByRecursion as All}
use Rattle.std.proofs.lemmas.Bool.{both_ways, cases_Bool}
use Rattle.model.proofs.core.Lists.{all_map, all_two}
use Rattle.model.proofs.core.State.{Book, Outcome, absent, present, Entry, up, down, recovering, Node, node, in_condition, State, outcomes, state_with_node, write_all}
use Rattle.model.proofs.core.Facts.{OutcomeRight, EntryRight, Extends}
use Rattle.model.proofs.core.Agreement.{Durable}
use Rattle.model.proofs.core.Memories.{Invariant}
use Rattle.model.proofs.core.KeptEntries.{KeptEntries, kept, kept_extends}
use Rattle.model.proofs.core.Writes.{nothing_written, condition_kept, torn}

-- an outcome after a restart: what it was, durable, or nothing if it was pending
abbrev pub LeftOver : Outcome → Outcome → Type 0
LeftOver o absent = Durable o → ⊥
LeftOver o (present v d) = (d ≡ true) × ((f : Bool) × (o ≡ present v f))

left_right : {V : Type 0} (B : Book V) (s : State V) (n : ℕ) (o o' : Outcome) → LeftOver o o' → OutcomeRight B s n o → OutcomeRight B s n o'
left_right B s n o absent l h = tt
left_right B s n o (present v d) l h = subst (OutcomeRight B s n) l.1.1 h

left_durable : (o o' : Outcome) → LeftOver o o' → Durable o → Durable o'
left_durable o absent l h = l h
left_durable o (present v d) l h = l.0

module _ {V : Type 0} (B : Book V) (s : State V) (i : Invariant B s) (q : ℕ) where
  abbrev k : Node V
  k = s.nodes q

  pub powerless : Invariant B (state_with_node s q (in_condition down k))
  unfolding write_all
  powerless = torn B s i q [] tt

  pub powerless_extends : Extends B s (state_with_node s q (in_condition down k))
  powerless_extends = kept_extends B s i q (in_condition down k) (condition_kept B s i q k down (nothing_written B s i q))

  -- the memory m and the outcomes g that the loss of power left
  module _ (m : ℕ → V) (g : Entry → Outcome) (memory_left : (b : ℕ) → k.written b ≡ false → m b ≡ k.memory b) (outcomes_left_lem : All (λ e. LeftOver e.outcome (g e)) k.entries) where
    abbrev pub restarted_node : Node V
    restarted_node = node recovering m (λ b. false) (outcomes g k.entries) k.pointer k.given k.forced

    restart_kept : KeptEntries B s q restarted_node
    restart_kept = record {
      new_outcome = g;
      entries = refl;
      pointer_same = refl;
      given_same = refl;
      forced_kept = λ _ h. h;
      right = all_two (EntryRight B s q) _ _ (λ e o l. left_right B s e.tid e.outcome (g e) l o.right) k.entries (i.agreement.entries q) outcomes_left_lem;
      durable_kept = all_map _ _ (λ e l. left_durable e.outcome (g e) l) k.entries outcomes_left_lem;
      bytes = λ b. ⊎_elim (λ h. inr (i.memories.written_redone q b h)) (λ h. inl (memory_left b h)) (cases_Bool (k.written b));
      written = λ b h. absurd (both_ways false refl h);
    }

    recovering_not_up : recovering ≡ up → ⊥
    recovering_not_up e = let z : ◌≡◌ {A = ℕ} 0 1 = cc in omega arith

    pub restarted : Invariant B (state_with_node s q restarted_node)
    restarted = kept B s i q restarted_node restart_kept (λ e. absurd (recovering_not_up e))

    pub restarted_extends : Extends B s (state_with_node s q restarted_node)
    restarted_extends = kept_extends B s i q restarted_node restart_kept
