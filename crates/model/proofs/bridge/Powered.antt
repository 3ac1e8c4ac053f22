-- A node that has power at the end of a history: its cluster was made well, and its tables fit.
use Rattle.std.proofs.Common.{◌≡◌, ℕ, zero, suc, true, false, List, [], ◌∷◌, map, length, get_or, refl, ap, ◌∙◌, ⊎_elim, arith}
use Rattle.std.proofs.lemmas.Bool.{cases_Bool}
use Rattle.model.specs.declared.condition.Condition.{Condition}
use Rattle.model.specs.declared.condition.Condition.TheVariants.{Up, Down, Recovering}
use Rattle.model.specs.Items.{Item}
use Rattle.model.specs.Cells.{Cell}
use Rattle.model.specs.Writes.{Stores}
use Rattle.model.specs.Node.{no_node, nothing_but, is_up, is_recovering}
use Rattle.model.specs.Cluster.{Cluster, node_at}
use Rattle.model.specs.Making.{making, is_well_made}
use Rattle.model.specs.History.{History, Faithful, plain}
use Rattle.model.proofs.core.State.{State}
use Rattle.model.proofs.bridge.SerialMemories.{Within}
use Rattle.model.proofs.bridge.Abstraction.{not_down_there}
use Rattle.model.proofs.bridge.Tables.{NodeFits}
use Rattle.model.proofs.bridge.Beginning.{sizes_of}
use Rattle.model.proofs.bridge.Reached.{Reached, moment}
use Rattle.model.proofs.bridge.Whole.{items_of, within_of, reached}
use Rattle.model.proofs.bridge.LawsUnmade.{following_unmade}

pub up_has_power : (d : Condition) → is_up d ≡ true → d ≡ Down → ⊥
up_has_power Up h e = let z : ◌≡◌ {A = ℕ} 0 1 = cc in omega arith
up_has_power Down h e = let z : ◌≡◌ {A = ℕ} 0 1 = cc in omega arith
up_has_power Recovering h e = let z : ◌≡◌ {A = ℕ} 0 1 = cc in omega arith

pub recovering_has_power : (d : Condition) → is_recovering d ≡ true → d ≡ Down → ⊥
recovering_has_power Up h e = let z : ◌≡◌ {A = ℕ} 0 1 = cc in omega arith
recovering_has_power Down h e = let z : ◌≡◌ {A = ℕ} 0 1 = cc in omega arith
recovering_has_power Recovering h e = let z : ◌≡◌ {A = ℕ} 0 1 = cc in omega arith

-- ## A cluster not made well has no power

nodes_down : (ss : List Stores) (q : ℕ) → (get_or (map (λ (s : Stores). record { stores = s; volatile = nothing_but Down }) ss) q no_node).volatile.condition ≡ Down
nodes_down [] q = refl
nodes_down (s ∷ ss) zero = refl
nodes_down (s ∷ ss) (suc q) = nodes_down ss q

unmade_down : (ss : List Stores) → is_well_made ss ≡ false → (q : ℕ) → (node_at (making ss) q).volatile.condition ≡ Down
unfolding making
unmade_down ss bad q = rw bad (nodes_down ss q)

pub power_made : (h : History) (q : ℕ) → ((node_at (plain h) q).volatile.condition ≡ Down → ⊥) → is_well_made h.beginning ≡ true
power_made h q power = ⊎_elim (λ good. good)
    (λ bad. absurd (power (ap (λ (c : Cluster). (node_at c q).volatile.condition) (following_unmade h.beginning bad h.events) ∙ unmade_down h.beginning bad q)))
    (cases_Bool (is_well_made h.beginning))

-- ## Its tables

module _ (h : History) (good : is_well_made h.beginning ≡ true) (faithful : Faithful h) where
  abbrev pub book_at : ℕ → List Item
  book_at = items_of h.beginning good h.events faithful.fed faithful.answered

  abbrev pub inside_at : (n : ℕ) → Within (sizes_of h.beginning) (length h.beginning) (book_at n)
  inside_at = within_of h.beginning good h.events faithful.fed faithful.answered

  abbrev pub end_at : Reached book_at (sizes_of h.beginning) (length h.beginning) inside_at h.beginning h.events
  end_at = reached h.beginning good h.events faithful.fed faithful.answered

  abbrev pub state_at : State Cell
  state_at = moment book_at (sizes_of h.beginning) (length h.beginning) inside_at h.beginning h.events end_at

  pub powered_fits : (q : ℕ) → ((node_at (plain h) q).volatile.condition ≡ Down → ⊥) → NodeFits book_at state_at (sizes_of h.beginning) q (node_at (plain h) q)
  powered_fits q power = end_at.sound.tables.nodes q (not_down_there (plain h) q power)
