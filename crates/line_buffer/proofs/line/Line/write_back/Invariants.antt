use Rattle.std.proofs.Common.{◌≡◌, ℕ, true, None}
use Rattle.line_buffer.specs.Lines.{laid, cell_at, cells_below}
use Rattle.line_buffer.proofs.line.Line.write_back.Given as goal

abbrev pub invariant-loop-c : goal.invariant-loop-c
invariant-loop-c g l =
    (g.M.Memory.bytes l.below ≡ laid 0 (cells_below l.fn.self l.c) (g.M.Memory.bytes l.initial.below))
    × ((k : ℕ) → cell_at l.fn.self k ≡ None → g.M.Memory.durable l.initial.below k ≡ true → g.M.Memory.durable l.below k ≡ true)
