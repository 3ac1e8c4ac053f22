-- What the values of the code stand for.
use Rattle.std.specs.Prelude.{ℕ, List, Some, None, Option}
use Rattle.std.specs.Borrow.{Bor}
use Rattle.model.specs.Items.{Item as PlainItem, compare, read, write}
use Rattle.records.specs.declared.item.Item.{Item}
use Rattle.records.specs.declared.item.Item.TheVariants.{Compare, Read, Write}

-- an item, with its data as they stand in the record
abbrev pub item_meaning : Item → PlainItem
item_meaning (Compare n a d) = compare n a d.now
item_meaning (Read n a l) = read n a l
item_meaning (Write n a d) = write n a d.now

abbrev pub split_meaning : Option (Item × Bor (List ℕ)) → Option (PlainItem × List ℕ)
split_meaning None = None
split_meaning (Some (i, rest)) = Some (item_meaning i, rest.now)
