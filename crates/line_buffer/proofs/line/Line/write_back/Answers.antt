use Rattle.std.proofs.Common.{ap, ◌∙◌, arith, rules}
use Rattle.line_buffer.specs.Lines.{laid}
use Rattle.line_buffer.proofs.Laid.{laid_laid, laid_nothing, unwrap_or_cells_more, cells_below_none}
use Rattle.line_buffer.proofs.WriteBack.{cell_none}
use Rattle.line_buffer.proofs.line.Line.write_back.Goals as goal

pub loop-c-init : goal.loop-c-init
loop-c-init g c = (laid_nothing _ _ _ (cells_below_none c.args.self), λ k o t. t)

pub loop-c-preserved : goal.loop-c-preserved
loop-c-preserved g c = (
  c.write_cell.ensures.bytes ∙ ap (laid 0 _) c.loop-c.invariant.0
      ∙ laid_laid _ _ _ _ _ (unwrap_or_cells_more c.args.self c.loop-c.c _ (search rules) (omega arith)),
  λ k o t. c.write_cell.ensures.durable k (cell_none c.args.self c.loop-c.c _ k (search rules) (omega arith) o) (c.loop-c.invariant.1 k o t),
)
