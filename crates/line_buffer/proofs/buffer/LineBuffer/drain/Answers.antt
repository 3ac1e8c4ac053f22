use Rattle.std.proofs.Common.{vec_items, ap, ◌∙◌}
use Rattle.line_buffer.specs.Lines.{overlaid}
use Rattle.line_buffer.proofs.Shown.{safe_no_lines}
use Rattle.line_buffer.proofs.WriteBack.{laid_no_lines}
use Rattle.line_buffer.proofs.buffer.LineBuffer.drain.Goals as goal

pub returns-clause-shown : goal.returns-clause-shown
returns-clause-shown g c ys = ap (λ zs. overlaid zs ys) c.clear.ensures ∙ laid_no_lines ys

pub returns-clause-free : goal.returns-clause-free
returns-clause-free g c d = safe_no_lines (vec_items c.clear.new.self.lines) d c.clear.ensures
