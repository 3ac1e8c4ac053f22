-- What was read and what the rest reads are the whole; there is room for the rest.
use Rattle.std.proofs.Common.{◌≡◌, ◌+◌, ◌*◌, ◌≤◌, ◌++◌, length}
use Rattle.model.specs.Ranges.{read_items}
use Rattle.records.specs.Cursor.{items_meaning}
use Rattle.nodes.specs.Reading.{read_bytes}
use Rattle.nodes.proofs.reads.read_items.Given as goal

abbrev pub invariant-loop-item : goal.invariant-loop-item
invariant-loop-item g l =
    (goal.iterator-loop-item g).can_next l.item-iterator ×
    (goal.iterator-loop-item g).is_finite l.item-iterator ×
    (read_bytes l.reads ++ read_items (g.M.Memory.bytes l.memory) (items_meaning l.item-iterator) ≡ read_items (g.M.Memory.bytes l.memory) (items_meaning l.items)) ×
    (l.reads.length + 16 * length (items_meaning l.item-iterator) ≤ 128)
