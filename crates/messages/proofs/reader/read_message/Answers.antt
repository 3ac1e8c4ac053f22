-- A message is read as its record, its header and its body are.
use Rattle.std.proofs.Common.{rules, ◌≡◌, Err, get_or, sym, ap, ◌∙◌, arith}
use Rattle.std.specs.Option.{ok_or}
use Rattle.model.specs.MessageFormat.{decode_body}
use Rattle.model.specs.declared.refusal.Refusal.TheVariants.{Malformed}
use Rattle.model.proofs.MessageWritesAgain.{message_again}
use Rattle.messages.specs.Meaning.{body_meaning, read_meaning}
use Rattle.records.proofs.Readers.{behind, some_from_ok, none_from_err}
use Rattle.messages.proofs.Reading.{body_in, read_other, read_headless, read_bodiless, read_whole}
use Rattle.messages.proofs.reader.read_message.Goals as goal

pub returns-then-not-is_record-clause-value : goal.returns-then-not-is_record-clause-value
returns-then-not-is_record-clause-value c = sym (ap (λ o. ok_or o Malformed) (read_other _ (sym c.if-not-is_record.ensures)))

pub returns-in_err-header-clause-value : goal.returns-in_err-header-clause-value
returns-in_err-header-clause-value c =
    let none = none_from_err c.read_header.result _ Malformed c.in_err-header.ensures.value
    in let error = c.from_residual.ensures.1
    in let why = none.1
    in let malformed : c.from_residual.result ≡ Err Malformed = search rules
    in ap read_meaning malformed ∙ sym (ap (λ o. ok_or o Malformed) (read_headless _ (none.0 ∙ c.read_header.ensures)))

pub returns-in_err-body-clause-value : goal.returns-in_err-body-clause-value
returns-in_err-body-clause-value c =
    let bytes = c.args.bytes.now
    in let body = c.in_err-body.ensures ∙ ap (λ bs. ok_or (decode_body (get_or bytes 3 0) bs) Malformed) (behind 12 bytes)
    in let none = none_from_err (body_in bytes) _ Malformed body
    in let error = c.from_residual-in_err-body.ensures.1
    in let why = none.1
    in let malformed : c.from_residual-in_err-body.result ≡ Err Malformed = search rules
    in ap read_meaning malformed ∙ sym (ap (λ o. ok_or o Malformed) (read_bodiless bytes none.0))

pub returns : goal.returns
returns c =
    let bytes = c.args.bytes.now
    in let header = some_from_ok c.in_ok-header.header c.read_header.result Malformed c.in_ok-header.ensures.value ∙ c.read_header.ensures
    in let body =
    some_from_ok (body_meaning c.in_ok-body.body) (body_in bytes) Malformed
    (c.in_ok-body.ensures ∙ ap (λ bs. ok_or (decode_body (get_or bytes 3 0) bs) Malformed) (behind 12 bytes))
    in let whole = read_whole bytes c.in_ok-header.header (body_meaning c.in_ok-body.body) (sym c.if-not-is_record.ensures) header body
    in record {
      value = sym (ap (λ o. ok_or o Malformed) whole);
      again = message_again _ _ (λ i. omega (arith, c.type_inv.bytes i)) whole;
    }
