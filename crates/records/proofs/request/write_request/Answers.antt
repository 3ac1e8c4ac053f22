-- The head, the count and the items make up the request.
use Rattle.std.proofs.Common.{rules, ◌≡◌, ℕ, ◌+◌, ◌<◌, ◌≤◌, List, [], ◌∷◌, ◌++◌, map, length, Ok, Err, Result, refl, ap, ◌∙◌, ap₂, arith}
use Rattle.std.specs.Iterator.Adapters.{copied_steps}
use Rattle.std.specs.Slice.Iter.{iter_steps}
use Rattle.std.proofs.lemmas.Bool.{and_parts}
use Rattle.model.specs.Bytes.{splice, placed}
use Rattle.model.specs.ItemFormat.{be16, encode_items, is_list, are_items}
use Rattle.model.specs.declared.refusal.Refusal.{Refusal}
use Rattle.model.specs.declared.refusal.Refusal.TheVariants.{Malformed}
use Rattle.model.specs.Requests.{encode_request, decode_request, version}
use Rattle.model.specs.Written.{written}
use Rattle.model.proofs.ReadsBack.{request_back, written_take}
use Rattle.model.proofs.RequestLaws.{list_bound, request_length, written_malformed, written_short, written_done}
use Rattle.model.proofs.Splices.{splice_start, splice_more, placed_more}
use Rattle.records.specs.Meaning.{item_meaning}
use Rattle.records.specs.Extents.{ItemsFit}
use Rattle.records.proofs.Roads.{copied_road}
use Rattle.records.proofs.Sizing.{extent_refused, slice_kept}
use Rattle.records.proofs.request.write_request.Goals as goal

pub returns-in_err-extent-clause-value : goal.returns-in_err-extent-clause-value
returns-in_err-extent-clause-value c =
    let is = map item_meaning c.args.items.now
    in let road = copied_road c.copied.result c.iter.result c.args.items.now c.copied.ensures.source c.iter.ensures.rest
    in let x = extent_refused is c.list_extent.result _ (c.list_extent.ensures is road.runs) c.in_err-extent.ensures.value
    in let error = c.from_residual.ensures.1
    in let why = x.1
    in let malformed : c.from_residual.result ≡ Err Malformed = search rules
    in ap (λ (r : Result ℕ Refusal). (r, c.args.buffer.now)) malformed ∙ written_malformed (is_list is) (encode_request is) c.args.buffer.now x.0

pub overflow_add-extent : goal.overflow_add-extent
overflow_add-extent c =
    let is = map item_meaning c.args.items.now
    in let x = slice_kept c.copied.result c.iter.result c.args.items.now c.list_extent.result _ c.copied.ensures.source c.iter.ensures.rest c.list_extent.ensures c.in_ok-extent.ensures.value
    in omega (arith, list_bound is x.0, x.2)

pub overflow_cast-extent : goal.overflow_cast-extent
overflow_cast-extent c =
    let is = map item_meaning c.args.items.now
    in let x = slice_kept c.copied.result c.iter.result c.args.items.now c.list_extent.result _ c.copied.ensures.source c.iter.ensures.rest c.list_extent.ensures c.in_ok-extent.ensures.value
    in omega (arith, list_bound is x.0, x.2)

pub returns-then-buffer-extent-clause-value : goal.returns-then-buffer-extent-clause-value
returns-then-buffer-extent-clause-value c =
    let is = map item_meaning c.args.items.now
    in let x = slice_kept c.copied.result c.iter.result c.args.items.now c.list_extent.result _ c.copied.ensures.source c.iter.ensures.rest c.list_extent.ensures c.in_ok-extent.ensures.value
    in let short : length c.args.buffer.now < length (encode_request is) = omega (arith, request_length is, x.2)
    in written_short (is_list is) (encode_request is) _ x.0 short

pub put_items-requires : goal.put_items-requires
put_items-requires c =
    let is = map item_meaning c.args.items.now
    in let again = copied_road c.copied-2.result c.iter-2.result c.args.items.now c.copied-2.ensures.source c.iter-2.ensures.rest
    in let x = slice_kept c.copied.result c.iter.result c.args.items.now c.list_extent.result _ c.copied.ensures.source c.iter.ensures.rest c.list_extent.ensures c.in_ok-extent.ensures.value
    in let fit : ItemsFit (copied_steps iter_steps) c.copied-2.result 4 c.put-2.new.buffer =
    record {
      listed = is;
      yields = again.runs;
      forms = (and_parts _ (are_items is) x.0).1;
      room = omega (arith, x.2);
    }
    in λ k. ((refl, tt), (tt, (tt, fit)))

pub returns : goal.returns
unfolding encode_request
returns c =
    let is = map item_meaning c.args.items.now
    in let again = copied_road c.copied-2.result c.iter-2.result c.args.items.now c.copied-2.ensures.source c.iter-2.ensures.rest
    in let buffer = c.args.buffer.now
    in let x = slice_kept c.copied.result c.iter.result c.args.items.now c.list_extent.result _ c.copied.ensures.source c.iter.ensures.rest c.list_extent.ensures c.in_ok-extent.ensures.value
    in let size = c.in_ok-extent.extent.size
    in let head : List ℕ = be16 (1 + size) ++ (version ∷ [])
    in let count : List ℕ = c.in_ok-extent.extent.count ∷ []
    in let room : 0 + (3 + 1) ≤ length buffer = omega (arith, x.2)
    in let two : c.put-2.new.buffer ≡ splice buffer 0 (head ++ count) =
    c.put-2.ensures ∙
    ap (λ b. placed b 3 count) (c.put.ensures ∙ ap (placed buffer 0) c.record_head.ensures) ∙
    placed_more buffer 0 head count room
    in let three : c.put_items.new.buffer ≡ splice buffer 0 ((head ++ count) ++ encode_items is) =
    c.put_items.ensures is again.runs ∙
    ap (λ b. splice b 4 (encode_items is)) two ∙ splice_more buffer 0 (head ++ count) (encode_items is) (omega arith)
    in let same : (head ++ count) ++ encode_items is ≡ encode_request is =
    ap₂ (λ n k. be16 (1 + n) ++ (version ∷ k ∷ encode_items is)) x.2 x.1
    in let fits : length (encode_request is) ≤ length buffer = omega (arith, request_length is, x.2)
    in let len : 3 + size ≡ length (encode_request is) = omega (arith, request_length is, x.2)
    in let value : ◌≡◌ {A = Result ℕ Refusal × List ℕ} (Ok (3 + size), c.put_items.new.buffer) (written (is_list is) (encode_request is) buffer) =
    written_done (is_list is) (encode_request is) buffer c.put_items.new.buffer _ x.0 fits len
    (three ∙ ap (splice buffer 0) same ∙ splice_start buffer (encode_request is))
    in record {
      value = value;
      back =
          ap decode_request (written_take _ (encode_request is) buffer c.put_items.new.buffer (Ok (3 + size)) value).1 ∙
          request_back is x.0;
    }
