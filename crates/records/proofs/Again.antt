-- What a reader gave is written again with the same bytes.
use Rattle.std.proofs.Common.{◌≡◌, ℕ, true, List, IfOk, Ok, Err, Result, sym}
use Rattle.std.specs.Option.{ok_or}
use Rattle.model.specs.declared.refusal.Refusal.{Refusal}
use Rattle.model.specs.declared.refusal.Refusal.TheVariants.{Malformed}
use Rattle.model.specs.ItemFormat.{is_list}
use Rattle.model.specs.Requests.{decode_request, encode_request}
use Rattle.model.specs.RoundTrips.{Bytes}
use Rattle.model.proofs.WritesAgain.{request_again}
use Rattle.records.proofs.Readers.{some_from_ok}
use Rattle.records.specs.declared.items.Items.{Items}
use Rattle.records.specs.Cursor.{items_meaning, list_meaning}

pub read_again :
    (bs : List ℕ) (r : Result Items Refusal) →
    Bytes bs →
    list_meaning r ≡ ok_or (decode_request bs) Malformed →
    IfOk r (λ items. (is_list (items_meaning items) ≡ true) × (encode_request (items_meaning items) ≡ bs))
read_again bs (Ok items) b e = request_again bs (items_meaning items) b (sym (some_from_ok (items_meaning items) (decode_request bs) Malformed e))
read_again bs (Err x) b e = tt
