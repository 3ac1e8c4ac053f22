-- How much an item list takes in a record.
use Rattle.std.specs.Prelude.{◌≡◌, ℕ, ◌+◌, ◌≤◌, Bool, true, cond, ◌&&◌, List, length, Some, None, Option, nat_le}
use Rattle.std.specs.Iterator.{AlwaysYields}
use Rattle.model.specs.Items.{Item as PlainItem}
use Rattle.model.specs.ItemFormat.{encode_item, encode_items, encode_list, is_item, are_items, is_list}
use Rattle.records.specs.declared.item.Item.{Item}
use Rattle.records.specs.declared.lists.Extent.{Extent}
use Rattle.records.specs.Meaning.{item_meaning}

abbrev pub list_extent : List PlainItem → Option Extent
list_extent is = cond (is_list is) (Some (record { count = length is; size = length (encode_list is) })) None

-- whether an item has a form, and fits into a buffer from a place on
abbrev pub has_room : List ℕ → ℕ → PlainItem → Bool
has_room buffer at i = is_item i && nat_le (at + length (encode_item i)) (length buffer)

-- what an iterator gives are items that have a form, and fit into a buffer from a place on
pub record ItemsFit {S : Type 0} (steps : S → Option Item → S → Type 0) (items : S) (at : ℕ) (buffer : List ℕ) : Type 0 where
  pub listed : List PlainItem
  pub yields : AlwaysYields steps item_meaning items listed
  pub forms : are_items listed ≡ true
  pub room : at + length (encode_items listed) ≤ length buffer
