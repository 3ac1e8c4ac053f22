use Rattle.std.proofs.Common.{length, vec_items, ap, ◌∙◌, rules}
use Rattle.std.proofs.lemmas.Bool.{leb-true}
use Rattle.model.specs.declared.refusal.Refusal.TheVariants.{OutOfRange}
use Rattle.memory.proofs.Answered.{done_within}
use Rattle.line_buffer.specs.Lines.{held_at, laid}
use Rattle.line_buffer.proofs.Laid.{length_laid}
use Rattle.line_buffer.proofs.Shown.{laid_part}
use Rattle.line_buffer.proofs.calls.LineBufferMemory.read.Goals as goal

pub returns-in_err-read-clause-answer : goal.returns-in_err-read-clause-answer
returns-in_err-read-clause-answer g c = rw length_laid (search rules)

pub returns-clause-answer : goal.returns-clause-answer
returns-clause-answer g c = rw length_laid (search rules)

pub returns-clause-copied : goal.returns-clause-copied
returns-clause-copied g c =
    let h = held_at (vec_items c.args.self.now.held.lines) in
    let xs = g.M.Memory.bytes c.args.self.now.below in
    let fit = leb-true _ _ (done_within OutOfRange _ c.in_ok-read.ensures.answer) in
    c.overlay.ensures ∙ ap (laid c.args.at h) (search rules) ∙ laid_part h xs c.args.at (length c.args.out.now) fit
