use Rattle.std.proofs.Common.{sym, ◌∙◌}
use Rattle.line_buffer.proofs.Laid.{length_laid}
use Rattle.line_buffer.proofs.calls.LineBufferMemory.len.Goals as goal

pub returns-clause-value : goal.returns-clause-value
returns-clause-value g c = c.len.ensures.value ∙ sym (length_laid 0 _ _)
