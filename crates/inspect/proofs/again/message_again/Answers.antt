-- A message that was read has a form and room, and is written with the bytes that it was read from.
use Rattle.std.proofs.Common.{◌≡◌, ◌≤◌, length, take, replicate, Ok, ◌∙◌, arith}
use Rattle.std.proofs.lemmas.Slice.Eq.{slice_eq-Decides}
use Rattle.model.specs.MessageFormat.{encode_message, is_body}
use Rattle.model.proofs.ReadsBack.{written_take}
use Rattle.model.proofs.RequestLaws.{written_fits}
use Rattle.messages.specs.Meaning.{message_meaning}
use Rattle.messages.proofs.Writing.{message_length, body_bound}
use Rattle.inspect.proofs.again.message_again.Goals as goal
use Rattle.std.proofs.lemmas.Bool.Decides.{Decides-eqb}

pub returns-in-Ok : goal.returns-in-Ok
returns-in-Ok c =
    let m = message_meaning c.args.message.now
    in let n = c.in-Ok.length
    in let after = c.write_message.new.buffer
    in let whole = written_take (is_body m.body) (encode_message m) (replicate 192 0) after (Ok n) c.in-Ok.ensures.value
    in let same : take n after ≡ c.args.bytes.now = whole.1 ∙ c.requires.bytes
    in (slice_eq-Decides Decides-eqb _ _ _ c.eq.ensures).1 same

pub returns-in-Err : goal.returns-in-Err
returns-in-Err c =
    let m = message_meaning c.args.message.now
    in let fits : length (encode_message m) ≤ 192 = omega (arith, message_length m, body_bound m.body c.requires.form)
    in absurd (written_fits (is_body m.body) (encode_message m) (replicate 192 0) _ _ c.requires.form fits c.in-Err.ensures.value)
