-- The size so far and what is left make up the whole.
use Rattle.std.proofs.Common.{◌+◌, ◌*◌, ◌≤◌, List}
use Rattle.std.specs.Iterator.{AlwaysYields}
use Rattle.model.specs.Items.{Item as PlainItem}
use Rattle.records.specs.Meaning.{item_meaning}
use Rattle.records.proofs.Sizing.{Counting}
use Rattle.records.proofs.lists.list_extent.Given as goal

abbrev pub invariant-loop-item : goal.invariant-loop-item
invariant-loop-item g l =
    (goal.iterator-loop-item g).can_next l.item-iterator ×
    (goal.iterator-loop-item g).is_finite l.item-iterator ×
    (l.size ≤ 1 + 21 * l.count) ×
    (l.count ≤ 8) ×
    ((is : List PlainItem) →
    AlwaysYields (goal.iterator-loop-item g).next_gives item_meaning l.fn.items is →
    Counting (goal.iterator-loop-item g).next_gives l.item-iterator l.count l.size is)
