use Rattle.std.proofs.Common.{◌≡◌, take}
use Rattle.line_buffer.specs.Lines.{laid, held_at}
use Rattle.line_buffer.proofs.lines.HeldLines.overlay.Given as goal

abbrev pub invariant-loop-line : goal.invariant-loop-line
invariant-loop-line l = l.out ≡ laid l.at (held_at (take l.line-index l.line-items)) l.initial.out
