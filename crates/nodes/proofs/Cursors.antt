-- A cursor over items gives the items that it stands for.
use Rattle.std.proofs.Common.{◌≡◌, ℕ, zero, suc, ◌<◌, true, List, [], ◌∷◌, length, get_or, ap, arith}
use Rattle.std.proofs.lemmas.Bool.{and_parts}
use Rattle.std.proofs.lemmas.Iterator.{YieldsList}
use Rattle.std.proofs.lemmas.Iterator.Consumers.{YieldsList-from_shown}
use Rattle.model.specs.Items.{Item}
use Rattle.model.specs.ItemFormat.{is_item, are_items}
use Rattle.records.specs.declared.items.Items.{Items}
use Rattle.records.specs.Meaning.{item_meaning}
use Rattle.records.specs.Cursor.{items_meaning, ItemStep}

pub items_come : (s : Items) → YieldsList ItemStep item_meaning s (items_meaning s)
items_come s = YieldsList-from_shown ItemStep item_meaning items_meaning (λ s t e. ap length e.0) (λ s x t e. e) s

-- each item of a list of items has a form
pub form_at : (is : List Item) → are_items is ≡ true → (k : ℕ) → k < length is → (d : Item) → is_item (get_or is k d) ≡ true
unfolding are_items
form_at [] form k l d = absurd (omega arith)
form_at (i ∷ is) form zero l d = (and_parts (is_item i) (are_items is) form).0
form_at (i ∷ is) form (suc k) l d = form_at is (and_parts (is_item i) (are_items is) form).1 k (omega arith) d
