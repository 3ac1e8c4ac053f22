use Rattle.std.proofs.Common.{◌≡◌, map, take, Some}
use Rattle.model.specs.Memory.{splice}
use Rattle.line_buffer.proofs.line.Line.with.Given as goal

abbrev pub invariant-loop-i : goal.invariant-loop-i
invariant-loop-i l = (l.self.number ≡ l.initial.self.number) × (l.self.cells ≡ splice l.initial.self.cells l.offset (map Some (take l.i l.from)))
