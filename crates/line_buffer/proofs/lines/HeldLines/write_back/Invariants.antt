use Rattle.std.proofs.Common.{◌≡◌, take}
use Rattle.line_buffer.specs.Lines.{overlaid}
use Rattle.line_buffer.proofs.lines.HeldLines.write_back.Given as goal

abbrev pub invariant-loop-line : goal.invariant-loop-line
invariant-loop-line g l = g.M.Memory.bytes l.below ≡ overlaid (take l.line-index l.line-items) (g.M.Memory.bytes l.initial.below)
