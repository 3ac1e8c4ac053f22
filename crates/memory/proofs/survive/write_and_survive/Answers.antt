use Rattle.std.proofs.Common.{◌≡◌, length, ap, ◌∙◌}
use Rattle.std.proofs.lemmas.Bool.{leb-true, cond-true}
use Rattle.model.specs.Memory.{part, splice}
use Rattle.model.specs.declared.refusal.Refusal.TheVariants.{OutOfRange}
use Rattle.model.proofs.Splices.{part_splice}
use Rattle.memory.proofs.Answered.{done_within}
use Rattle.memory.proofs.Survivors.{survived_all}
use Rattle.memory.proofs.survive.write_and_survive.Goals as goal

pub returns-clause-survived : goal.returns-clause-survived
returns-clause-survived g c done same =
    let xs = g.M.Memory.bytes c.args.memory.now in
    let fit = leb-true _ _ (done_within OutOfRange _ c.in_ok-write.ensures.answer) in
    let kept = survived_all _ _ _ c.flush.ensures.durable c.restart.ensures.survived in
    let there : g.M.Memory.bytes c.restart.new.self ≡ splice xs c.args.at c.args.from.now = kept ∙ c.flush.ensures.bytes ∙ c.in_ok-write.ensures.bytes in
    c.read.ensures.copied ∙ cond-true _ _ _ done ∙ ap (λ bs. part bs c.args.at (length c.args.out.now)) there
    ∙ ap (part (splice xs c.args.at c.args.from.now) c.args.at) same ∙ part_splice xs c.args.from.now c.args.at fit
