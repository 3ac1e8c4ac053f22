-- The request as a whole: its form, its length, and what a writer of it answers.
use Rattle.std.proofs.Common.{◌≡◌, ℕ, ◌+◌, ◌*◌, ◌<◌, ◌≤◌, Bool, true, false, cond, ◌&&◌, leb, List, [], ◌∷◌, ◌++◌, length, drop, Some, None, Ok, Err, Option, Result, sym, refl, ap, ◌∙◌, ap₂, arith}
use Rattle.std.proofs.lemmas.Bool.{and_parts, leb-true, lt-ltb, le-ltb}
use Rattle.model.specs.declared.refusal.Refusal.{Refusal}
use Rattle.model.specs.declared.refusal.Refusal.TheVariants.{Malformed, NoRoom}
use Rattle.model.specs.Items.{Item}
use Rattle.model.specs.ItemFormat.{encode_items, encode_list, is_item, are_items, is_list, list_size, decode_list}
use Rattle.model.specs.Requests.{is_record, decode_request, encode_request}
use Rattle.model.specs.Written.{written}
use Rattle.model.proofs.ItemLists.{encode_none, encode_more_length, are_more, encode_bound}

-- ## Reading

pub decode_record : (bs : List ℕ) → is_record bs ≡ true → decode_request bs ≡ decode_list (drop 3 bs)
unfolding decode_request
decode_record bs e = ap (λ b. cond b (decode_list (drop 3 bs)) None) e

pub decode_other : (bs : List ℕ) → is_record bs ≡ false → decode_request bs ≡ None
unfolding decode_request
decode_other bs e = ap (λ b. cond b (decode_list (drop 3 bs)) None) e

-- ## Lengths

pub items_bound : (is : List Item) → are_items is ≡ true → length (encode_items is) ≤ 21 * length is
items_bound [] h = omega (arith, ap length encode_none)
items_bound (i ∷ is) h =
    let parts = and_parts (is_item i) (are_items is) (sym (are_more i is) ∙ h)
    in omega (arith, encode_more_length i is, encode_bound i parts.0, items_bound is parts.1)

abbrev list_parts :
    (is : List Item) → is_list is ≡ true → (leb 1 (length is) ≡ true) × ((leb (length is) 8 ≡ true) × (are_items is ≡ true))
list_parts is h =
    let outer = and_parts (leb 1 (length is) && leb (length is) 8) (are_items is) h
    in let inner = and_parts (leb 1 (length is)) (leb (length is) 8) outer.0
    in (inner.0, (inner.1, outer.1))

pub list_items : (is : List Item) → is_list is ≡ true → are_items is ≡ true
list_items is h = (list_parts is h).1.1

pub list_few : (is : List Item) → is_list is ≡ true → length is ≤ 8
list_few is h = leb-true _ _ (list_parts is h).1.0

pub list_bound : (is : List Item) → is_list is ≡ true → length (encode_list is) ≤ 169
list_bound is h = omega (arith, items_bound is (list_items is h), list_few is h)

pub list_sized : (is : List Item) (n : ℕ) → Some n ≡ list_size is → (is_list is ≡ true) × (n ≡ length (encode_list is))
list_sized is n e = go (is_list is) e
  where
    go : (b : Bool) → Some n ≡ cond b (Some (length (encode_list is))) None → (b ≡ true) × (n ≡ length (encode_list is))
    go true e = (refl, cc)
    go false e = let z : ◌≡◌ {A = ℕ} 0 1 = cc in absurd (omega arith)

pub list_unsized : (is : List Item) → None ≡ list_size is → is_list is ≡ false
list_unsized is e = go (is_list is) e
  where
    go : (b : Bool) → ◌≡◌ {A = Option ℕ} None (cond b (Some (length (encode_list is))) None) → b ≡ false
    go true e = cc
    go false e = refl

pub request_length : (is : List Item) → length (encode_request is) ≡ 3 + length (encode_list is)
unfolding encode_request
request_length is = omega arith

-- ## What a writer answers

pub written_malformed : (ok : Bool) (bs buffer : List ℕ) → ok ≡ false → (Err Malformed, buffer) ≡ written ok bs buffer
written_malformed ok bs buffer e = sym (ap (λ b. written b bs buffer) e)

pub written_short :
    (ok : Bool) (bs buffer : List ℕ) → ok ≡ true → length buffer < length bs → (Err NoRoom, buffer) ≡ written ok bs buffer
written_short ok bs buffer e short =
    sym (ap (λ b. written b bs buffer) e ∙
    ap (λ b. cond {A = Result ℕ Refusal × List ℕ} b (Err NoRoom, buffer) (Ok (length bs), bs ++ drop (length bs) buffer)) (lt-ltb _ _ short))

pub written_done :
    (ok : Bool) (bs buffer after : List ℕ) (n : ℕ) →
    ok ≡ true →
    length bs ≤ length buffer →
    n ≡ length bs →
    after ≡ bs ++ drop (length bs) buffer →
    (Ok n, after) ≡ written ok bs buffer
written_done ok bs buffer after n e fits len holds =
    let pair : ℕ → List ℕ → Result ℕ Refusal × List ℕ = λ k b. (Ok k, b)
    in ap₂ pair len holds ∙
    sym (ap (λ b. written b bs buffer) e ∙
    ap (λ b. cond {A = Result ℕ Refusal × List ℕ} b (Err NoRoom, buffer) (Ok (length bs), bs ++ drop (length bs) buffer)) (le-ltb _ _ fits))

-- a value that has a form, and room, is not refused
pub written_fits :
    (ok : Bool) (bs buffer after : List ℕ) (x : Refusal) →
    ok ≡ true → length bs ≤ length buffer → (Err x, after) ≡ written ok bs buffer → ⊥
written_fits ok bs buffer after x good fits e =
    let done = written_done ok bs buffer (bs ++ drop (length bs) buffer) (length bs) good fits refl refl
    in let clash : Err x ≡ Ok (length bs) = ap (λ p. p.0) (e ∙ sym done)
    in let z : ◌≡◌ {A = ℕ} 0 1 = cc in omega arith
