-- What an item set stands for, and which items of a list it keeps.
use Rattle.std.specs.Prelude.{Bool, true, List, ◌==◌}
use Rattle.model.specs.Items.{Item as PlainItem}
use Rattle.model.specs.ItemFormat.{take_items}
use Rattle.model.specs.Ranges.{is_write, node_of}
use Rattle.records.specs.declared.item_set.ItemSet.{ItemSet}
use Rattle.records.specs.declared.item_set.Selection.{Selection}
use Rattle.records.specs.declared.item_set.Selection.TheVariants.{All, Writes, OfNode}

-- whether an item is one of those that are kept
abbrev pub selected : Selection → PlainItem → Bool
selected All = λ i. true
selected Writes = λ i. is_write i
selected (OfNode q) = λ i. (node_of i == q)

-- the items of a set, read from its bytes
abbrev pub set_items : ItemSet → List PlainItem
set_items s = take_items s.count s.bytes
