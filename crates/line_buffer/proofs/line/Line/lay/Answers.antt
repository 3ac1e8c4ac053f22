use Rattle.std.proofs.Common.{ap, ◌∙◌, arith, rules}
use Rattle.line_buffer.specs.Lines.{laid}
use Rattle.line_buffer.proofs.Laid.{laid_laid, laid_nothing, unwrap_or_cells_more, cells_below_none}
use Rattle.line_buffer.proofs.line.Line.lay.Goals as goal

pub loop-c-init : goal.loop-c-init
loop-c-init c = laid_nothing _ _ _ (cells_below_none c.args.self)

pub loop-c-preserved : goal.loop-c-preserved
loop-c-preserved c =
    c.lay_cell.ensures ∙ ap (laid c.args.at _) c.loop-c.invariant ∙ laid_laid _ _ _ _ _ (unwrap_or_cells_more c.args.self c.loop-c.c _ (search rules) (omega arith))
