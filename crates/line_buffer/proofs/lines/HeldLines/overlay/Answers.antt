use Rattle.std.proofs.Common.{sym, ap, ◌∙◌, subst, true, ◌≡◌}
use Rattle.line_buffer.specs.Lines.{numbers, apart, laid}
use Rattle.line_buffer.proofs.Laid.{laid_laid, laid_nothing}
use Rattle.line_buffer.proofs.Hold.{unwrap_or_lines_more, held_at_no_lines}
use Rattle.line_buffer.proofs.lines.HeldLines.overlay.Goals as goal

pub loop-line-init : goal.loop-line-init
loop-line-init c = laid_nothing _ _ _ held_at_no_lines

pub loop-line-preserved : goal.loop-line-preserved
loop-line-preserved c =
    let ls = c.deref-line-items.result.now in
    let distinct = subst (λ zs. apart (numbers zs) ≡ true) (sym c.deref-line-items.ensures.value) c.args.self.now.distinct in
    c.lay.ensures ∙ ap (laid c.args.at _) c.loop-line.invariant
    ∙ laid_laid _ _ _ _ _ (unwrap_or_lines_more ls c.loop-line.line-index _ distinct c.loop-line-test.true)
