use Rattle.std.proofs.Common.{◌≡◌}
use Rattle.line_buffer.specs.Lines.{laid, cells_below}
use Rattle.line_buffer.proofs.line.Line.lay.Given as goal

abbrev pub invariant-loop-c : goal.invariant-loop-c
invariant-loop-c l = l.out ≡ laid l.at (cells_below l.fn.self l.c) l.initial.out
