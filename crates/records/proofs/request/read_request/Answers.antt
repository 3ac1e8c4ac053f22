-- A record's content is read as a list.
use Rattle.std.proofs.Common.{◌≡◌, sym, ap, ◌∙◌, arith}
use Rattle.std.specs.Option.{ok_or}
use Rattle.model.specs.declared.refusal.Refusal.TheVariants.{Malformed}
use Rattle.model.specs.ItemFormat.{decode_list}
use Rattle.model.specs.Requests.{decode_request}
use Rattle.model.proofs.RequestLaws.{decode_record, decode_other}
use Rattle.records.specs.Cursor.{list_meaning}
use Rattle.records.proofs.Readers.{behind}
use Rattle.records.proofs.Again.{read_again}
use Rattle.records.proofs.request.read_request.Goals as goal

pub returns-then-not-is_record-clause-value : goal.returns-then-not-is_record-clause-value
returns-then-not-is_record-clause-value c = sym (ap (λ o. ok_or o Malformed) (decode_other _ (sym c.if-not-is_record.ensures)))

pub returns : goal.returns
returns c =
    let bytes = c.args.bytes.now
    in let value : list_meaning c.parse.result ≡ ok_or (decode_request bytes) Malformed =
    c.parse.ensures ∙
    ap (λ bs. ok_or (decode_list bs) Malformed) (behind 3 bytes) ∙
    sym (ap (λ o. ok_or o Malformed) (decode_record _ (sym c.if-not-is_record.ensures)))
    in record { value = value; again = read_again _ _ (λ i. omega (arith, c.type_inv.bytes i)) value }
