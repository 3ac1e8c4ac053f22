-- What was written reads back: items, lists of them and requests.
use Rattle.std.proofs.Common.{◌≡◌, ℕ, ◌+◌, ◌*◌, ◌/◌, ◌%◌, Bool, true, false, cond, ◌&&◌, ltb, leb, List, [], ◌∷◌, ◌++◌, length, take, drop, IfOk, Some, Ok, Err, Result, refl, ap, ◌∙◌, ap₂, arith, length-append}
use Rattle.std.proofs.lemmas.List.{take_at, drop_at}
use Rattle.std.proofs.lemmas.Bool.{and_parts}
use Rattle.std.proofs.lemmas.Bool.Decides.{nat_tests}
use Rattle.std.specs.Option.{option_map}
use Rattle.model.specs.declared.refusal.Refusal.{Refusal}
use Rattle.model.specs.declared.refusal.Refusal.TheVariants.{Malformed, NoRoom}
use Rattle.model.specs.Items.{Item, compare, read, write}
use Rattle.model.specs.Written.{written}
use Rattle.model.specs.ItemFormat.{encode_item, encode_items, encode_list, is_item, are_items, is_list, decode_item, decode_items, decode_list, then_items}
use Rattle.model.specs.Requests.{encode_request, decode_request}
use Rattle.model.specs.RoundTrips.{RequestReadsBack}

pub joined16 : (n : ℕ) → n / 256 * 256 + n % 256 ≡ n
joined16 n = omega arith

pub item_back : (i : Item) (rest : List ℕ) → is_item i ≡ true → decode_item (encode_item i ++ rest) ≡ Some (i, rest)
item_back (compare n a ds) rest h =
    let l = length-append ds rest
    in let j = joined16 a
    in let t = take_at ds rest (length ds) refl
    in let d = drop_at ds rest (length ds) refl
    in grind (arith, nat_tests)
item_back (read n a l) rest h = let j = joined16 a in grind (arith, nat_tests)
item_back (write n a ds) rest h =
    let l = length-append ds rest
    in let j = joined16 a
    in let t = take_at ds rest (length ds) refl
    in let d = drop_at ds rest (length ds) refl
    in grind (arith, nat_tests)

pub items_back : (is : List Item) → are_items is ≡ true → decode_items (length is) (encode_items is) ≡ Some is
unfolding decode_items encode_items are_items
items_back [] h = refl
items_back (i ∷ is) h =
    let parts = and_parts (is_item i) (are_items is) h
    in ap (λ o. then_items o (λ rest. decode_items (length is) rest)) (item_back i (encode_items is) parts.0) ∙
    ap (option_map (λ js. i ∷ js)) (items_back is parts.1)

pub list_back : (is : List Item) → is_list is ≡ true → decode_list (encode_list is) ≡ Some is
list_back is h =
    let outer = and_parts (leb 1 (length is) && leb (length is) 8) (are_items is) h
    in let back = items_back is outer.1
    in grind (arith, nat_tests)

pub request_back : RequestReadsBack
unfolding decode_request encode_request
request_back is h =
    let back = list_back is h
    in let j = joined16 (1 + length (encode_list is))
    in grind (arith, nat_tests)

-- ## What a writer left reads back

pub written_take :
    (ok : Bool) (bs buffer after : List ℕ) (r : Result ℕ Refusal) →
    (r, after) ≡ written ok bs buffer →
    IfOk r (λ n. (ok ≡ true) × (take n after ≡ bs))
written_take true bs buffer after (Ok n) e = go (ltb (length buffer) (length bs)) e
  where
    go :
        (b : Bool) →
        ◌≡◌ {A = Result ℕ Refusal × List ℕ} (Ok n, after) (cond b (Err NoRoom, buffer) (Ok (length bs), bs ++ drop (length bs) buffer)) →
        (true ≡ true) × (take n after ≡ bs)
    go true e = let f : Ok n ≡ Err NoRoom = ap (λ p. p.0) e in let z : ◌≡◌ {A = ℕ} 0 1 = cc in absurd (omega arith)
    go false e =
        let f : Ok n ≡ Ok (length bs) = ap (λ p. p.0) e
        in let size : n ≡ length bs = cc
        in (refl, ap₂ take size (ap (λ p. p.1) e) ∙ take_at bs (drop (length bs) buffer) (length bs) refl)
written_take false bs buffer after (Ok n) e =
    let f : Ok n ≡ Err Malformed = ap (λ p. p.0) e in let z : ◌≡◌ {A = ℕ} 0 1 = cc in absurd (omega arith)
written_take true bs buffer after (Err x) e = tt
written_take false bs buffer after (Err x) e = tt
