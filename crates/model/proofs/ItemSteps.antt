-- One step of reading an item list: what is left behind its first item.
use Rattle.std.proofs.Common.{◌≡◌, ℕ, zero, suc, ◌-◌, ◌<◌, ◌≤◌, Bool, true, false, cond, eqb, List, [], ◌∷◌, length, is_some, Some, None, Option, sym, refl, ap, ◌∙◌, arith}
use Rattle.std.specs.Option.{option_map}
use Rattle.model.specs.Items.{Item}
use Rattle.model.specs.ItemFormat.{decode_item, decode_items, take_items, then_items, then_take}

-- ## The items to come

pub take_none : (bs : List ℕ) → take_items 0 bs ≡ []
unfolding take_items
take_none bs = refl

pub take_stuck : (n : ℕ) (bs : List ℕ) → decode_item bs ≡ None → take_items n bs ≡ []
unfolding take_items
take_stuck zero bs e = refl
take_stuck (suc n) bs e = ap (λ o. then_take o (λ rest. take_items n rest)) e

pub take_more :
    (n : ℕ) (bs : List ℕ) (i : Item) (rest : List ℕ) →
    0 < n →
    decode_item bs ≡ Some (i, rest) →
    take_items n bs ≡ i ∷ take_items (n - 1) rest
unfolding take_items
take_more zero bs i rest h e = absurd (omega arith)
take_more (suc n) bs i rest h e =
    let p : suc n - 1 ≡ n = omega arith
    in ap (λ o. then_take o (λ r. take_items n r)) e ∙ ap (λ m. i ∷ take_items m rest) (sym p)

-- no more than were asked for
pub take_bound : (n : ℕ) (bs : List ℕ) → length (take_items n bs) ≤ n
unfolding take_items
take_bound zero bs = omega arith
take_bound (suc n) bs = go (decode_item bs) (λ rest. take_bound n rest)
  where
    go :
        (o : Option (Item × List ℕ)) →
        ((rest : List ℕ) → length (take_items n rest) ≤ n) → length (then_take o (λ rest. take_items n rest)) ≤ suc n
    go None f = omega arith
    go (Some (i, rest)) f = let h = f rest in omega arith

-- ## The whole list

pub decode_none : (bs : List ℕ) → is_some (decode_items 0 bs) ≡ eqb (length bs) 0
unfolding decode_items
decode_none bs = go (eqb (length bs) 0)
  where
    go : (b : Bool) → is_some (cond {A = Option (List Item)} b (Some []) None) ≡ b
    go true = refl
    go false = refl

pub decode_stuck : (n : ℕ) (bs : List ℕ) → 0 < n → decode_item bs ≡ None → decode_items n bs ≡ None
unfolding decode_items
decode_stuck zero bs h e = absurd (omega arith)
decode_stuck (suc n) bs h e = ap (λ o. then_items o (λ rest. decode_items n rest)) e

pub decode_more :
    (n : ℕ) (bs : List ℕ) (i : Item) (rest : List ℕ) →
    0 < n →
    decode_item bs ≡ Some (i, rest) →
    decode_items n bs ≡ option_map (λ is. i ∷ is) (decode_items (n - 1) rest)
unfolding decode_items
decode_more zero bs i rest h e = absurd (omega arith)
decode_more (suc n) bs i rest h e =
    let p : suc n - 1 ≡ n = omega arith
    in ap (λ o. then_items o (λ r. decode_items n r)) e ∙ ap (λ m. option_map (λ is. i ∷ is) (decode_items m rest)) (sym p)

pub mapped_is_some : {A B : Type 0} (f : A → B) (o : Option A) → is_some (option_map f o) ≡ is_some o
mapped_is_some f None = refl
mapped_is_some f (Some x) = refl

-- ## A list that can be read is read item by item

pub decoded_take :
    (n : ℕ) (bs : List ℕ) → is_some (decode_items n bs) ≡ true → decode_items n bs ≡ Some (take_items n bs)
unfolding decode_items take_items
decoded_take zero bs h = go (eqb (length bs) 0) h
  where
    go :
        (b : Bool) →
        is_some (cond {A = Option (List Item)} b (Some []) None) ≡ true →
        cond {A = Option (List Item)} b (Some []) None ≡ Some []
    go true h = refl
    go false h = cc
decoded_take (suc n) bs h = go (decode_item bs) (λ rest. decoded_take n rest) h
  where
    one :
        (i : Item) (o : Option (List Item)) (is : List Item) →
        (is_some o ≡ true → o ≡ Some is) →
        is_some (option_map (λ is. i ∷ is) o) ≡ true →
        option_map (λ is. i ∷ is) o ≡ Some (i ∷ is)
    one i None is f h = cc
    one i (Some js) is f h = let e : Some js ≡ Some is = f refl in cc

    go :
        (o : Option (Item × List ℕ)) →
        ((rest : List ℕ) → is_some (decode_items n rest) ≡ true → decode_items n rest ≡ Some (take_items n rest)) →
        is_some (then_items o (λ rest. decode_items n rest)) ≡ true →
        then_items o (λ rest. decode_items n rest) ≡ Some (then_take o (λ rest. take_items n rest))
    go None f h = cc
    go (Some (i, rest)) f h = one i (decode_items n rest) (take_items n rest) (f rest) h
