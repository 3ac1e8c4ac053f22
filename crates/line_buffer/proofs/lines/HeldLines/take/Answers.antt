use Rattle.std.proofs.Common.{vec_items, ap, ◌∙◌}
use Rattle.line_buffer.specs.Lines.{numbers, apart}
use Rattle.line_buffer.proofs.Distinct.{apart_removed}
use Rattle.line_buffer.proofs.Held.{numbers_removed}
use Rattle.line_buffer.proofs.lines.HeldLines.take.Goals as goal

pub invariant_of-self-clause-distinct : goal.invariant_of-self-clause-distinct
invariant_of-self-clause-distinct c =
    let ls = vec_items c.args.self.now.lines in
    ap (λ zs. apart (numbers zs)) c.remove.ensures.items ∙ ap apart (numbers_removed ls c.args.i) ∙ apart_removed (numbers ls) c.args.i c.args.self.now.distinct
