use Rattle.std.proofs.Common.{vec_items}
use Rattle.line_buffer.proofs.Shown.{apart_none}
use Rattle.line_buffer.proofs.lines.HeldLines.new.Goals as goal

pub invariant_of-result-clause-distinct : goal.invariant_of-result-clause-distinct
invariant_of-result-clause-distinct c = apart_none (vec_items c.in_ok-with_capacity.field-0) c.in_ok-with_capacity.ensures.items
