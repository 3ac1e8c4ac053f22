use Rattle.std.proofs.Common.{vec_items}
use Rattle.line_buffer.proofs.Shown.{safe_no_lines, survived_lines}
use Rattle.line_buffer.proofs.buffer.LineBuffer.forget.Goals as goal

pub returns-clause-free : goal.returns-clause-free
returns-clause-free g c d = safe_no_lines (vec_items c.clear.new.self.lines) d c.clear.ensures

pub returns-clause-survivors : goal.returns-clause-survivors
returns-clause-survivors g c ys =
    survived_lines (vec_items c.args.self.now.held.lines) (vec_items c.clear.new.self.lines) (g.M.Memory.bytes c.args.self.now.below) ys (g.M.Memory.durable c.args.self.now.below) c.clear.ensures
