-- A node that changes twice in one call changes once; power may fail after any change.
use Rattle.std.proofs.Common.{◌≡◌, ℕ, ap, ◌∙◌, subst}
use Rattle.model.proofs.core.Lists.{update_same, update_update}
use Rattle.model.proofs.core.State.{Book, Node, in_condition, down, State, state_with_node}
use Rattle.model.proofs.core.Facts.{Extends, extends_trans}
use Rattle.model.proofs.core.Memories.{Invariant}
use Rattle.model.proofs.core.Restart.{powerless, powerless_extends}

module _ {V : Type 0} where
  pub node_here : (s : State V) (q : ℕ) (k : Node V) → (state_with_node s q k).nodes q ≡ k
  node_here s q k = update_same s.nodes q k

  pub node_again : (s : State V) (q : ℕ) (k m : Node V) → state_with_node (state_with_node s q k) q m ≡ state_with_node s q m
  node_again s q k m = ap (λ (f : ℕ → Node V). record { nodes = f; network = s.network; notes = s.notes; next = s.next; past = s.past }) (update_update s.nodes q k m)

  down_again : (s : State V) (q : ℕ) (k : Node V) → state_with_node (state_with_node s q k) q (in_condition down ((state_with_node s q k).nodes q)) ≡ state_with_node s q (in_condition down k)
  down_again s q k = node_again s q k (in_condition down ((state_with_node s q k).nodes q)) ∙ ap (λ (m : Node V). state_with_node s q (in_condition down m)) (node_here s q k)

  module _ (B : Book V) (s : State V) (q : ℕ) (k : Node V) (i : Invariant B (state_with_node s q k)) where
    pub then_powerless : Invariant B (state_with_node s q (in_condition down k))
    then_powerless = subst (Invariant B) (down_again s q k) (powerless B (state_with_node s q k) i q)

    pub then_powerless_extends : Extends B s (state_with_node s q k) → Extends B s (state_with_node s q (in_condition down k))
    then_powerless_extends x = subst (Extends B s) (down_again s q k) (extends_trans B s (state_with_node s q k) _ x (powerless_extends B (state_with_node s q k) i q))
