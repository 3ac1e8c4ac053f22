-- A list that has a size is short.
use Rattle.std.proofs.Common.{arith}
use Rattle.model.proofs.RequestLaws.{list_sized, list_bound}
use Rattle.records.specs.Cursor.{items_meaning}
use Rattle.messages.proofs.writer.body_size.Goals as goal

pub overflow_add-result : goal.overflow_add-result
overflow_add-result c =
    let is = items_meaning c.in-Prepare.items
    in let s = list_sized is _ c.in_ok-size-in-Prepare.ensures
    in omega (arith, list_bound is s.0, s.1)
