use Rattle.std.proofs.Common.{◌≡◌, ◌+◌, length, get_or, set, Some, ap, ◌∙◌, arith, rules}
use Rattle.line_buffer.proofs.Cells.{with_more}
use Rattle.line_buffer.proofs.line.Line.with.Goals as goal

pub loop-i-preserved : goal.loop-i-preserved
loop-i-preserved c =
    let n : length c.args.self.cells ≡ 16 = search rules in (
      c.loop-i.invariant.0,
      ap (λ cs. set cs (c.args.offset + c.loop-i.i) (Some (get_or c.args.from.now c.loop-i.i 0))) c.loop-i.invariant.1
          ∙ with_more c.args.self.cells c.args.offset c.loop-i.i c.args.from.now (omega arith) c.loop-i-test.true,
    )
