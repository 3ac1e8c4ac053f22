use Rattle.std.proofs.Common.{sym, ap, ◌∙◌}
use Rattle.line_buffer.specs.Lines.{only_at, laid}
use Rattle.line_buffer.proofs.Laid.{laid_one_none}
use Rattle.line_buffer.proofs.WriteBack.{laid_write_one}
use Rattle.line_buffer.proofs.line.write_cell.Goals as goal

pub returns-in-Some-clause-bytes : goal.returns-in-Some-clause-bytes
returns-in-Some-clause-bytes g c =
    laid_write_one _ _ _ c.args.address c.in-Some.b c.write.result c.write.ensures.answer c.write.ensures.bytes
    ∙ ap (λ v. laid 0 (only_at c.args.address v) (g.M.Memory.bytes c.args.below.now)) (sym c.in-Some.is)

pub returns-in_default-clause-bytes : goal.returns-in_default-clause-bytes
returns-in_default-clause-bytes g c =
    laid_one_none 0 c.args.address (g.M.Memory.bytes c.args.below.now)
    ∙ ap (λ v. laid 0 (only_at c.args.address v) (g.M.Memory.bytes c.args.below.now)) (sym c.in_default.is)
