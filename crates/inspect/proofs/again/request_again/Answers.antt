-- A request that was read has a form and room, and is written with the bytes that it was read from.
use Rattle.std.proofs.Common.{◌≡◌, ◌≤◌, true, List, map, length, take, replicate, Ok, ap, ◌∙◌, arith}
use Rattle.std.proofs.lemmas.Slice.Eq.{slice_eq-Decides}
use Rattle.std.proofs.lemmas.Iterator.Consumers.{map_from_collect, YieldsList-from_shown}
use Rattle.std.specs.declared.alloc.AllocError.{AllocError}
use Rattle.model.specs.Items.{Item as PlainItem}
use Rattle.model.specs.ItemFormat.{is_list}
use Rattle.model.specs.Requests.{encode_request}
use Rattle.model.proofs.ReadsBack.{written_take}
use Rattle.model.proofs.RequestLaws.{list_bound, request_length, written_fits}
use Rattle.records.specs.Meaning.{item_meaning}
use Rattle.records.specs.Cursor.{items_meaning, ItemStep}
use Rattle.inspect.proofs.again.request_again.Goals as goal
use Rattle.std.proofs.lemmas.Bool.Decides.{Decides-eqb}

pub returns-in-Ok : goal.returns-in-Ok
returns-in-Ok c =
    let road = YieldsList-from_shown ItemStep item_meaning items_meaning (λ s t e. ap length e.0) (λ s x t e. e) c.args.items
    in let list = map_from_collect {E = AllocError} {steps = ItemStep} (Ok c.in_ok-list.list) c.in_ok-list.ensures.ran road
    in let is : List PlainItem = map item_meaning c.as_slice.result.now
    in let items : is ≡ items_meaning c.args.items = ap (map item_meaning) c.as_slice.ensures.value ∙ list
    in let n = c.in-Ok.length
    in let after = c.write_request.new.buffer
    in let whole = written_take (is_list is) (encode_request is) (replicate 192 0) after (Ok n) c.in-Ok.ensures.value
    in let same : take n after ≡ c.args.bytes.now =
    whole.1 ∙ ap encode_request items ∙ c.requires.bytes
    in (slice_eq-Decides Decides-eqb _ _ _ c.eq.ensures).1 same

pub returns : goal.returns
returns c =
    let road = YieldsList-from_shown ItemStep item_meaning items_meaning (λ s t e. ap length e.0) (λ s x t e. e) c.args.items
    in let list = map_from_collect {E = AllocError} {steps = ItemStep} (Ok c.in_ok-list.list) c.in_ok-list.ensures.ran road
    in let is : List PlainItem = map item_meaning c.as_slice.result.now
    in let items : is ≡ items_meaning c.args.items = ap (map item_meaning) c.as_slice.ensures.value ∙ list
    in let form : is_list is ≡ true = ap is_list items ∙ c.requires.form
    in let fits : length (encode_request is) ≤ 192 = omega (arith, request_length is, list_bound is form)
    in absurd (written_fits (is_list is) (encode_request is) (replicate 192 0) _ _ form fits c.in-Err.ensures.value)
