-- What was read is written again with the same bytes: items, lists of them and requests.
use Rattle.std.proofs.Common.{◌≡◌, ℕ, zero, suc, ◌+◌, ◌*◌, ◌/◌, ◌%◌, ◌<◌, ◌≤◌, Bool, true, false, cond, ◌||◌, eqb, ltb, List, [], ◌∷◌, ◌++◌, length, get_or, take, drop, Some, None, Option, sym, refl, ap, ◌∙◌, subst, ap₂, arith, take-append-drop}
use Rattle.std.proofs.lemmas.List.{length-take-le, nil_from_length, get_or-drop, get_or-append-add}
use Rattle.std.proofs.lemmas.Bool.{and_from, le-leb, eqb-true}
use Rattle.std.proofs.lemmas.Bool.Decides.{nat_tests}
use Rattle.std.specs.Option.{option_map}
use Rattle.model.specs.Items.{Item, compare, read, write}
use Rattle.model.specs.ItemFormat.{encode_item, encode_items, encode_list, is_item, are_items, is_list, decode_item, decode_fields, decode_items, decode_list, then_items}
use Rattle.model.specs.Requests.{is_record, encode_record, encode_request, decode_request}
use Rattle.model.specs.RoundTrips.{Bytes, RequestWritesAgain}

-- one case of a test, with what the test then says
pub rung : {X : Type 0} (P : X → Type 0) (t : Bool) (x y : X) → (t ≡ true → P x) → (t ≡ false → P y) → P (cond t x y)
rung P true x y f g = f refl
rung P false x y f g = g refl

pub bytes_drop : (n : ℕ) (bs : List ℕ) → Bytes bs → Bytes (drop n bs)
bytes_drop n bs h k = subst (λ x. x < 256) (sym (get_or-drop n bs k 0)) (h (n + k))

-- ## One item

-- what an item that was split off and the rest say of the bytes they came from
Split : List ℕ → Option (Item × List ℕ) → Type 0
Split bs None = Unit {0}
Split bs (Some (i, rest)) = (is_item i ≡ true) × (encode_item i ++ rest ≡ bs)

pub high16 : (h l : ℕ) → l < 256 → (h * 256 + l) / 256 ≡ h
high16 h l b = omega arith

pub low16 : (h l : ℕ) → l < 256 → (h * 256 + l) % 256 ≡ l
low16 h l b = omega arith

fields_again :
    (k n h l len : ℕ) (rest : List ℕ) →
    l < 256 → Split (k ∷ n ∷ h ∷ l ∷ len ∷ rest) (decode_fields k n (h * 256 + l) len rest)
unfolding Split
fields_again k n h l len rest b =
    let bs : List ℕ = k ∷ n ∷ h ∷ l ∷ len ∷ rest
    in let a : ℕ = h * 256 + l
    in let high : a / 256 ≡ h = high16 h l b
    in let low : a % 256 ≡ l = low16 h l b
    in rung (Split bs) (ltb len 1 || ltb 16 len) None _ (λ e. tt)
    (λ bounds.
    rung (Split bs) (eqb k 2) (Some (read n a len, rest)) _
    (λ e. let kind = eqb-true k 2 e in (grind (arith, nat_tests), cc))
    (λ e.
    rung (Split bs) (ltb (length rest) len) None _ (λ e. tt)
    (λ long.
    let fits : len ≤ length rest = grind (arith, nat_tests)
    in let size = length-take-le len rest fits
    in let whole = take-append-drop len rest
    in rung (Split bs) (eqb k 1) (Some (compare n a (take len rest), drop len rest)) _
    (λ e. let kind = eqb-true k 1 e in (grind (arith, nat_tests), cc))
    (λ e.
    rung (Split bs) (eqb k 3) (Some (write n a (take len rest), drop len rest)) None
    (λ e. let kind = eqb-true k 3 e in (grind (arith, nat_tests), cc))
    (λ e. tt)))))

item_again : (bs : List ℕ) → Bytes bs → Split bs (decode_item bs)
unfolding Split
item_again [] b = tt
item_again (k ∷ []) b = tt
item_again (k ∷ n ∷ []) b = tt
item_again (k ∷ n ∷ h ∷ []) b = tt
item_again (k ∷ n ∷ h ∷ l ∷ []) b = tt
item_again (k ∷ n ∷ h ∷ l ∷ len ∷ rest) b =
    rung (Split (k ∷ n ∷ h ∷ l ∷ len ∷ rest)) (ltb (length (k ∷ n ∷ h ∷ l ∷ len ∷ rest)) 5) None _ (λ e. tt)
    (λ e. fields_again k n h l len rest (b 3))

-- ## Lists of items

pub bytes_behind : (xs ys bs : List ℕ) → xs ++ ys ≡ bs → Bytes bs → Bytes ys
bytes_behind xs ys bs e b k =
    subst (λ x. x < 256) (ap (λ l. get_or l (length xs + k) 0) (sym e) ∙ get_or-append-add xs ys k 0) (b (length xs + k))

-- what a list of items that was read says of the bytes it came from
Listed : ℕ → List ℕ → Option (List Item) → Type 0
Listed n bs None = Unit {0}
Listed n bs (Some is) = (are_items is ≡ true) × (length is ≡ n) × (encode_items is ≡ bs)

items_again : (n : ℕ) (bs : List ℕ) → Bytes bs → Listed n bs (decode_items n bs)
unfolding Listed Split decode_items encode_items are_items
items_again zero bs b =
    rung (Listed 0 bs) (eqb (length bs) 0) (Some []) None
    (λ e. (refl, refl, sym (nil_from_length bs (eqb-true _ _ e))))
    (λ e. tt)
items_again (suc n) bs b = go (decode_item bs) (item_again bs b) (λ rest. items_again n rest)
  where
    one :
        (i : Item) (rest : List ℕ) →
        is_item i ≡ true →
        encode_item i ++ rest ≡ bs →
        (o : Option (List Item)) → Listed n rest o → Listed (suc n) bs (option_map (λ is. i ∷ is) o)
    one i rest good whole None l = tt
    one i rest good whole (Some is) l =
        (and_from _ _ good l.0, ap suc l.1, ap (λ t. encode_item i ++ t) l.2 ∙ whole)

    go :
        (o : Option (Item × List ℕ)) →
        Split bs o →
        ((rest : List ℕ) → Bytes rest → Listed n rest (decode_items n rest)) →
        Listed (suc n) bs (then_items o (λ rest. decode_items n rest))
    go None s f = tt
    go (Some (i, rest)) s f =
        one i rest s.0 s.1 (decode_items n rest) (f rest (bytes_behind (encode_item i) rest bs s.1 b))

-- what an item list with its count says of the bytes it came from
unfoldable pub CountedFrom : List ℕ → Option (List Item) → Type 0
CountedFrom bs None = Unit {0}
CountedFrom bs (Some is) = (is_list is ≡ true) × (encode_list is ≡ bs)

pub list_again : (bs : List ℕ) → Bytes bs → CountedFrom bs (decode_list bs)
unfolding CountedFrom Listed
list_again [] b = tt
list_again (n ∷ rest) b =
    rung (CountedFrom (n ∷ rest)) (ltb (length (n ∷ rest)) 1) None _ (λ e. tt)
    (λ e.
    rung (CountedFrom (n ∷ rest)) (ltb n 1 || ltb 8 n) None _ (λ e. tt)
    (λ bounds.
    let some : 1 ≤ n = grind (arith, nat_tests)
    in let few : n ≤ 8 = grind (arith, nat_tests)
    in go some few (decode_items n rest) (items_again n rest (bytes_drop 1 (n ∷ rest) b))))
  where
    go : 1 ≤ n → n ≤ 8 → (o : Option (List Item)) → Listed n rest o → CountedFrom (n ∷ rest) o
    go some few None l = tt
    go some few (Some is) l =
        let size = l.1
        in (
          and_from _ _ (and_from _ _ (le-leb 1 (length is) (omega arith)) (le-leb (length is) 8 (omega arith))) l.0,
          ap₂ (λ k t. k ∷ t) size l.2,
        )

-- ## Requests

Requested : List ℕ → Option (List Item) → Type 0
Requested bs None = Unit {0}
Requested bs (Some is) = (is_list is ≡ true) × (encode_request is ≡ bs)

pub record_again :
    (bs : List ℕ) → Bytes bs → is_record bs ≡ true → encode_record (drop 3 bs) ≡ bs
record_again [] b e = cc
record_again (h ∷ []) b e = cc
record_again (h ∷ l ∷ []) b e = cc
record_again (h ∷ l ∷ v ∷ content) b e =
    let low : l < 256 = b 1
    in let hi : (1 + length content) / 256 ≡ h = grind (arith, nat_tests)
    in let lo : (1 + length content) % 256 ≡ l = grind (arith, nat_tests)
    in let ve : 1 ≡ v = grind (arith, nat_tests)
    in cc

requested : (bs : List ℕ) → Bytes bs → Requested bs (decode_request bs)
unfolding Requested CountedFrom decode_request encode_request
requested bs b =
    rung (Requested bs) (is_record bs) (decode_list (drop 3 bs)) None
    (λ e. go e (decode_list (drop 3 bs)) (list_again (drop 3 bs) (bytes_drop 3 bs b)))
    (λ e. tt)
  where
    go : is_record bs ≡ true → (o : Option (List Item)) → CountedFrom (drop 3 bs) o → Requested bs o
    go e None l = tt
    go e (Some is) l = (l.0, ap encode_record l.1 ∙ record_again bs b e)

pub request_again : RequestWritesAgain
unfolding Requested
request_again bs is b e = subst (Requested bs) e (requested bs b)
