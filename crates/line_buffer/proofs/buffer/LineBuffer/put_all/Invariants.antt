use Rattle.std.proofs.Common.{vec_items}
use Rattle.line_buffer.proofs.Wrote.{UpTo}
use Rattle.line_buffer.proofs.buffer.LineBuffer.put_all.Given as goal

abbrev pub invariant-loop-number : goal.invariant-loop-number
invariant-loop-number g l =
    UpTo (vec_items l.initial.self.held.lines) (g.M.Memory.bytes l.initial.self.below) (g.M.Memory.durable l.initial.self.below) l.initial.self.below l.at l.from l.last l.number (vec_items l.self.held.lines) (g.M.Memory.bytes l.self.below) (g.M.Memory.durable l.self.below) l.self.below
