use Rattle.std.proofs.Common.{vec_items}
use Rattle.line_buffer.proofs.Shown.{apart_none}
use Rattle.line_buffer.proofs.lines.HeldLines.clear.Goals as goal

pub invariant_of-self-clause-distinct : goal.invariant_of-self-clause-distinct
invariant_of-self-clause-distinct c = apart_none (vec_items c.clear.new.self) c.clear.ensures.items
