-- Durable writes one after the other, each counted by a write budget where it is made.
use Rattle.std.specs.Prelude.{◌≡◌, ℕ, ◌-◌, Bool, true, cond, not, List, [], ◌∷◌, map, ◌==◌}
use Rattle.model.specs.Items.{Item}
use Rattle.model.specs.Journal.{Journal}
use Rattle.model.specs.Lists.{only}
use Rattle.model.specs.Writes.{Write, Stores, put, applied, applied_all, budgeted, fails}
use Rattle.records.specs.declared.item_set.Selection.{Selection}
use Rattle.records.specs.ItemSets.{selected}
use Rattle.model.specs.Deeds.{touched_by, touched_by_all}

-- whether a write may still be made
abbrev pub allows : ℕ → Bool
allows left = not (left == 0)

-- what is left after one write more; a budget that does not fail stays
abbrev pub spent : ℕ → ℕ
spent left = cond (fails left) (left - 1) left

unfoldable pub left_over : ℕ → List Write → ℕ
left_over left [] = left
left_over left (w ∷ ws) = left_over (spent left) ws

-- only bytes are volatile that were before, or that these writes wrote and did not flush, given what was and is durable
abbrev pub Spared : List Write → (ℕ → Bool) → (ℕ → Bool) → Type 0
Spared ws before after = (k : ℕ) → not (after k) ≡ true → touched_by_all ws k (not (before k)) ≡ true

-- One write, counted where it is made: it stands if the budget allows it.
pub record MadeOne (left : ℕ) (w : Write) (s : Stores) (durable : ℕ → Bool) (left' : ℕ) (s' : Stores) (durable' : ℕ → Bool) : Type 0 where
  pub budget : left' ≡ spent left
  pub stores : s' ≡ cond (allows left) (applied w s) s
  pub spared : (k : ℕ) → not (durable' k) ≡ true → cond (allows left) (touched_by w k (not (durable k))) (not (durable k)) ≡ true

-- A list of writes is made as far as a budget goes: what is left of the budget, what the stores then hold, and what of
-- the memory is then durable.
pub record Made (left : ℕ) (ws : List Write) (s : Stores) (durable : ℕ → Bool) (left' : ℕ) (s' : Stores) (durable' : ℕ → Bool) : Type 0 where
  pub budget : left' ≡ left_over left ws
  pub stores : s' ≡ applied_all (budgeted left ws) s
  pub spared : Spared (budgeted left ws) durable durable'

-- the stores that have these cells and this journal
abbrev pub both : List ℕ → Journal → Stores
both cells journal = record { cells = cells; journal = journal }

-- the writes of those items of a list that are selected
abbrev pub puts : Selection → List Item → List Write
puts selection is = map put (only (selected selection) is)
