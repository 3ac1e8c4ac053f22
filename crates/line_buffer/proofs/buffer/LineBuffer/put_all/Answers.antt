use Rattle.std.proofs.Common.{◌≡◌, ◌+◌, ◌-◌, ◌*◌, ◌/◌, ◌<◌, ◌≤◌, length, vec_items, sym, arith}
use Rattle.std.proofs.lemmas.Bool.{eqb-true, eqb-false}
use Rattle.line_buffer.specs.Lines.{line_bytes, most_lines, held_at}
use Rattle.line_buffer.proofs.Laid.{length_laid}
use Rattle.line_buffer.proofs.Wrote.{UpTo, up_to_start, up_to_next, up_to_all, whole_empty, wrote_length, length_piece}
use Rattle.line_buffer.proofs.buffer.LineBuffer.put_all.Given.{Over}
use Rattle.line_buffer.proofs.buffer.LineBuffer.put_all.Goals.{After-loop-number, After-put}
use Rattle.line_buffer.proofs.buffer.LineBuffer.put_all.Goals as goal

pub returns-then-is_empty : goal.returns-then-is_empty
returns-then-is_empty g c =
    let self = c.args.self.now in
    let ls = vec_items self.held.lines in
    let xs = g.M.Memory.bytes self.below in
    let w = whole_empty ls xs (g.M.Memory.durable self.below) self.below c.args.at c.args.from.now
    (omega (arith, c.requires.range, length_laid 0 (held_at ls) xs)) (eqb-true _ _ (sym c.if-is_empty.ensures)) in
    record { bytes = w.bytes; kept = w.kept; back = w.back; lazy = w.lazy }

pub loop-number-init : goal.loop-number-init
loop-number-init g c = up_to_start _ _ _ _ _ _ _

pub put-requires : goal.put-requires
put-requires g c =
    let self = c.args.self.now in
    let now = c.loop-number.self in
    let from = c.args.from.now in
    let a = c.args.at in
    let q = c.loop-number.number in
    let ls = vec_items self.held.lines in
    let xs = g.M.Memory.bytes self.below in
    let ls₁ = vec_items now.held.lines in
    let xs₁ = g.M.Memory.bytes now.below in
    let last = (a + length from - 1) / line_bytes in
    let n : 0 < length from = omega (arith, eqb-false _ _ (sym c.if-is_empty.ensures)) in
    let first : a / line_bytes ≤ q = c.loop-number.auto.number in
    let up : q ≤ last = c.loop-number-test.true in
    let more : last * line_bytes < a + length from = omega arith in
    let starts : c.max-start.result ≡ a + (q * line_bytes - a) = omega (arith, c.max-start.ensures) in
    let p = length_piece ls xs a from q ls₁ xs₁ last first up more c.max-start.result c.min-end.result starts c.min-end.ensures in
    omega (arith, p, wrote_length ls xs a _ _ ls₁ xs₁ c.loop-number.invariant.wrote.0, starts, c.min-end.ensures, c.requires.range, length_laid 0 (held_at ls) xs)

-- one line more is written
next : (g : Over) (c : After-put g) → UpTo (vec_items c.args.self.now.held.lines) (g.M.Memory.bytes c.args.self.now.below) (g.M.Memory.durable c.args.self.now.below) c.args.self.now.below c.args.at c.args.from.now ((c.args.at + length c.args.from.now - 1) / line_bytes) (c.loop-number.number + 1) (vec_items c.put.new.self.held.lines) (g.M.Memory.bytes c.put.new.self.below) (g.M.Memory.durable c.put.new.self.below) c.put.new.self.below
next g c =
    let self = c.args.self.now in
    let now = c.loop-number.self in
    let then = c.put.new.self in
    let from = c.args.from.now in
    let a = c.args.at in
    let q = c.loop-number.number in
    let last = (a + length from - 1) / line_bytes in
    let n : 0 < length from = omega (arith, eqb-false _ _ (sym c.if-is_empty.ensures)) in
    let first : a / line_bytes ≤ q = c.loop-number.auto.number in
    let up : q ≤ last = c.loop-number-test.true in
    let more : last * line_bytes < a + length from = omega arith in
    let starts : c.max-start.result ≡ a + (q * line_bytes - a) = omega (arith, c.max-start.ensures) in
    let few : length (vec_items then.held.lines) ≤ most_lines = omega (arith, then.held.few, then.held.lines.ok.0) in
    up_to_next (vec_items self.held.lines) (g.M.Memory.bytes self.below) a from q (vec_items now.held.lines) (g.M.Memory.bytes now.below) last first up more c.max-start.result c.min-end.result starts c.min-end.ensures
    (g.M.Memory.durable self.below) (g.M.Memory.durable now.below) (g.M.Memory.durable then.below) self.below now.below then.below
    c.loop-number.invariant (vec_items then.held.lines) (g.M.Memory.bytes then.below) c.put.ensures.back c.put.ensures.lazy c.put.ensures.durable few

pub loop-number-preserved : goal.loop-number-preserved
loop-number-preserved g c = next g (goal.at.loop-number-preserved g c).After-put

-- the loop ends before a line that is past the last one
pub returns-else-is_empty : goal.returns-else-is_empty
returns-else-is_empty g c =
    let self = c.args.self.now in
    let now = c.loop-number.self in
    let ls = vec_items self.held.lines in
    let xs = g.M.Memory.bytes self.below in
    let n : 0 < length c.args.from.now = omega (arith, eqb-false _ _ (sym c.if-is_empty.ensures)) in
    let w = up_to_all ls xs (g.M.Memory.durable self.below) self.below c.args.at c.args.from.now c.loop-number.number (vec_items now.held.lines) (g.M.Memory.bytes now.below) (g.M.Memory.durable now.below) now.below
    (omega (arith, c.requires.range, length_laid 0 (held_at ls) xs)) n (omega (arith, c.loop-number-test.false, c.loop-number.auto.number-end)) c.loop-number.invariant in
    record { bytes = w.bytes; kept = w.kept; back = w.back; lazy = w.lazy }

-- or behind the last one
pub returns-else-is_empty-2 : goal.returns-else-is_empty-2
returns-else-is_empty-2 g c =
    let self = c.args.self.now in
    let then = c.put.new.self in
    let ls = vec_items self.held.lines in
    let xs = g.M.Memory.bytes self.below in
    let n : 0 < length c.args.from.now = omega (arith, eqb-false _ _ (sym c.if-is_empty.ensures)) in
    let w = up_to_all ls xs (g.M.Memory.durable self.below) self.below c.args.at c.args.from.now (c.loop-number.number + 1) (vec_items then.held.lines) (g.M.Memory.bytes then.below) (g.M.Memory.durable then.below) then.below
    (omega (arith, c.requires.range, length_laid 0 (held_at ls) xs)) n (omega arith) (next g (goal.at.returns-else-is_empty-2 g c).After-put) in
    record { bytes = w.bytes; kept = w.kept; back = w.back; lazy = w.lazy }
