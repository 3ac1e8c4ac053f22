-- Whatever the rest comes to, the whole comes to.
use Rattle.model.specs.Journal.{Journal}
use Rattle.records.specs.Cursor.{items_meaning}
use Rattle.nodes.specs.Budgets.{both, puts}
use Rattle.nodes.proofs.Budgeting.{Remaining}
use Rattle.nodes.proofs.access.put_items.Given as goal

abbrev pub invariant-loop-item : goal.invariant-loop-item
invariant-loop-item g l =
    (goal.iterator-loop-item g).can_next l.item-iterator ×
    (goal.iterator-loop-item g).is_finite l.item-iterator ×
    ((j : Journal) → Remaining l.budget.left (puts l.selection (items_meaning l.item-iterator)) (both (g.M.Memory.bytes l.memory) j) (g.M.Memory.durable l.memory)
    l.initial.budget.left (puts l.selection (items_meaning l.items)) (both (g.M.Memory.bytes l.initial.memory) j) (g.M.Memory.durable l.initial.memory))
