-- The header and the body make up the message.
use Rattle.std.proofs.Common.{◌≡◌, ℕ, ◌+◌, ◌<◌, ◌≤◌, List, ◌++◌, length, Ok, Result, ap, ◌∙◌, arith}
use Rattle.model.specs.declared.refusal.Refusal.{Refusal}
use Rattle.model.specs.Bytes.{splice, placed}
use Rattle.model.specs.MessageFormat.{encode_body, encode_message, decode_message, is_body}
use Rattle.model.specs.Written.{written}
use Rattle.model.proofs.ReadsBack.{written_take}
use Rattle.model.proofs.MessageReadsBack.{message_back}
use Rattle.model.proofs.RequestLaws.{written_short, written_done}
use Rattle.model.proofs.Splices.{splice_start, splice_more, placed_fits}
use Rattle.messages.specs.Meaning.{body_meaning, message_meaning}
use Rattle.records.proofs.Readers.{some_from_ok}
use Rattle.messages.proofs.Writing.{body_sized, body_bound, message_length, head_of, message_parts}
use Rattle.messages.proofs.writer.write_message.Goals as goal

pub overflow_add-size : goal.overflow_add-size
overflow_add-size c =
    let b = body_meaning c.args.message.now.body
    in let s = body_sized b _ (some_from_ok _ _ _ c.in_ok-size.ensures.value ∙ c.body_size.ensures)
    in omega (arith, body_bound b s.0, s.1)

pub overflow_cast-length : goal.overflow_cast-length
overflow_cast-length c =
    let b = body_meaning c.args.message.now.body
    in let s = body_sized b _ (some_from_ok _ _ _ c.in_ok-size.ensures.value ∙ c.body_size.ensures)
    in omega (arith, body_bound b s.0, s.1)

pub returns-then-buffer-size : goal.returns-then-buffer-size
returns-then-buffer-size c =
    let m = message_meaning c.args.message.now
    in let s = body_sized m.body _ (some_from_ok _ _ _ c.in_ok-size.ensures.value ∙ c.body_size.ensures)
    in let short : length c.args.buffer.now < length (encode_message m) = omega (arith, message_length m, s.1)
    in record { value = written_short _ (encode_message m) _ s.0 short; back = tt }

pub returns : goal.returns
returns c =
    let m = message_meaning c.args.message.now
    in let buffer = c.args.buffer.now
    in let n = c.in_ok-size.size
    in let s = body_sized m.body n (some_from_ok _ _ _ c.in_ok-size.ensures.value ∙ c.body_size.ensures)
    in let head : List ℕ = head_of (10 + n) c.from.result m
    in let room : 0 + 12 ≤ length buffer = omega arith
    in let first : c.put.new.buffer ≡ splice buffer 0 head =
    c.put.ensures ∙ ap (placed buffer 0) c.header_bytes.ensures ∙ placed_fits buffer 0 head room
    in let whole : c.put_body.new.buffer ≡ splice buffer 0 (head ++ encode_body m.body) =
    c.put_body.ensures ∙
    ap (λ b. splice b 12 (encode_body m.body)) first ∙ splice_more buffer 0 head (encode_body m.body) (omega arith)
    in let same : head ++ encode_body m.body ≡ encode_message m = message_parts m n _ s.1 (c.from.ensures ∙ c.kind.ensures.number)
    in let fits : length (encode_message m) ≤ length buffer = omega (arith, message_length m, s.1)
    in let len : 12 + n ≡ length (encode_message m) = omega (arith, message_length m, s.1)
    in let value : ◌≡◌ {A = Result ℕ Refusal × List ℕ} (Ok (12 + n), c.put_body.new.buffer) (written (is_body m.body) (encode_message m) buffer) =
    written_done (is_body m.body) (encode_message m) buffer c.put_body.new.buffer _ s.0 fits len
    (whole ∙ ap (splice buffer 0) same ∙ splice_start buffer (encode_message m))
    in record {
      value = value;
      back =
          ap decode_message (written_take _ (encode_message m) buffer c.put_body.new.buffer (Ok (12 + n)) value).1 ∙
          message_back m s.0;
    }
