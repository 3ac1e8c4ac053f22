-- What was put and what is left make up the whole.
use Rattle.std.proofs.Common.{List}
use Rattle.std.specs.Iterator.{AlwaysYields}
use Rattle.model.specs.Items.{Item as PlainItem}
use Rattle.records.specs.Extents.{ItemsFit}
use Rattle.records.specs.Meaning.{item_meaning}
use Rattle.records.proofs.Putting.{Putting}
use Rattle.records.proofs.lists.put_items.Given as goal

abbrev pub invariant-loop-item : goal.invariant-loop-item
invariant-loop-item g l =
    (goal.iterator-loop-item g).can_next l.item-iterator ×
    (goal.iterator-loop-item g).is_finite l.item-iterator ×
    ItemsFit (goal.iterator-loop-item g).next_gives l.item-iterator l.end l.buffer ×
    ((is : List PlainItem) →
    AlwaysYields (goal.iterator-loop-item g).next_gives item_meaning l.fn.items is →
    Putting (goal.iterator-loop-item g).next_gives l.item-iterator l.buffer l.end l.initial.buffer l.at is)
