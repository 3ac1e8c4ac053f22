-- The front of a list of fixed length: one more at its end, one replaced, one taken out.
use Rattle.std.proofs.Common.{◌≡◌, ℕ, suc, ◌+◌, ◌-◌, ◌<◌, ◌≤◌, Bool, true, false, cond, eqb, ltb, leb, List, [], ◌∷◌, ◌++◌, map, length, get_or, take, drop, set, Some, None, Option, sym, refl, ap, ◌∙◌, ap₂, ⊎_elim, arith}
use lib.Seq.{paste, take-paste, take-set-lt, take-set-le, set_out}
use Rattle.std.specs.List.{remove, slice_get}
use Rattle.std.specs.Option.{option_map}
use Rattle.std.proofs.lemmas.Bool.{cases_lt, lt-ltb, le-ltb, cond-true, cond-false}
use Rattle.std.proofs.lemmas.Option.{slice_get-get_or, slice_get_past, slice_get-map}
use Rattle.std.proofs.lemmas.List.{length-take, length-drop, take-take, drop-take, take-map, drop-map, map-append, length-map}
use Rattle.model.specs.Lists.{place, place_in}
use Rattle.nodes.specs.Standing.{found}
use Rattle.nodes.specs.Tables.{placed, found_in}

module _ {X : Type 0} (xs : List X) (n : ℕ) where
  pub front_replaced : (p : ℕ) (x : X) → take n (set xs p x) ≡ set (take n xs) p x
  front_replaced p x =
      ⊎_elim (λ (l : p < n). take-set-lt n xs p x l)
      (λ (l : n ≤ p). take-set-le n xs p x l ∙ sym (set_out (take n xs) p x (omega (arith, length-take n xs))))
      (cases_lt p n)

  pub front_removed : (m p : ℕ) → m ≤ length xs → p < m → take m xs ≡ take n xs
      → take (m - 1) (paste xs p (drop (p + 1) xs) (m - (p + 1))) ≡ remove (take n xs) p
  front_removed m p e l f =
      let count : m - 1 ≡ p + (m - (p + 1)) = omega arith in
      let rest : length (drop (p + 1) xs) ≡ length xs - (p + 1) = length-drop (p + 1) xs in
      let next : p + 1 ≡ suc p = omega arith in
      let whole : suc p + (m - (p + 1)) ≡ m = omega arith in
      ap (λ k. take k (paste xs p (drop (p + 1) xs) (m - (p + 1)))) count
      ∙ take-paste xs p (drop (p + 1) xs) (m - (p + 1)) (omega arith) (omega arith)
      ∙ ap₂ (λ a b. a ++ b) (sym (take-take p m xs (omega arith)))
      (ap (λ k. take (m - (p + 1)) (drop k xs)) next ∙ sym (drop-take (suc p) (m - (p + 1)) xs) ∙ ap (λ k. drop (suc p) (take k xs)) whole)
      ∙ ap (λ ys. remove ys p) f

-- ## What a table promises of its records, said of what they stand for

module _ {X Y : Type 0} (f : X → Y) where
  pub removed_meaning : (xs : List X) (p : ℕ) → map f (remove xs p) ≡ remove (map f xs) p
  removed_meaning xs p = map-append f (take p xs) (drop (suc p) xs) ∙ ap₂ (λ a b. a ++ b) (sym (take-map f p xs)) (sym (drop-map f (suc p) xs))

  pub pushed_meaning : (xs : List X) (x : X)
      → map f (cond (leb 16 (length xs)) xs (xs ++ x ∷ [])) ≡ cond (leb 16 (length (map f xs))) (map f xs) (map f xs ++ f x ∷ [])
  pushed_meaning xs x = split (leb 16 (length xs)) ∙ ap (λ n. cond (leb 16 n) (map f xs) (map f xs ++ f x ∷ [])) (sym (length-map xs f))
    where
      split : (b : Bool) → map f (cond b xs (xs ++ x ∷ [])) ≡ cond b (map f xs) (map f xs ++ f x ∷ [])
      split true = refl
      split false = map-append f xs (x ∷ [])

pub place_map : {X Y : Type 0} (f : X → Y) (number : Y → ℕ) (n : ℕ) (xs : List X) → place number n (map f xs) ≡ place (λ x. number (f x)) n xs
unfolding place
place_map f number n [] = refl
place_map f number n (x ∷ xs) = ap (λ k. cond (eqb (number (f x)) n) 0 (suc k)) (place_map f number n xs)

pub place_meaning : {X Y : Type 0} (f : X → Y) (number : Y → ℕ) (n : ℕ) (xs : List X) → place_in (λ x. number (f x)) n xs ≡ place_in number n (map f xs)
place_meaning f number n xs =
    ap₂ (λ k m. cond (ltb k m) (Some k) None) (sym (place_map f number n xs)) (sym (length-map xs f))

abbrev with_place : {X : Type 0} → ℕ → X → ℕ × X
with_place k x = (k, x)

fused : {X Y : Type 0} (f : X → Y) (k : ℕ) (o : Option X) → option_map (placed f) (option_map (with_place k) o) ≡ option_map (with_place k) (option_map f o)
fused f k None = refl
fused f k (Some x) = refl

at_place : {Y : Type 0} (ys : List Y) (k : ℕ) (none : Y) → option_map (with_place k) (slice_get ys k) ≡ cond (ltb k (length ys)) (Some (with_place k (get_or ys k none))) None
at_place ys k none =
    ⊎_elim (λ (l : k < length ys). ap (option_map (with_place k)) (slice_get-get_or ys k none l) ∙ sym (cond-true _ _ _ (lt-ltb k (length ys) l)))
    (λ (l : length ys ≤ k). ap (option_map (with_place k)) (slice_get_past ys k l) ∙ sym (cond-false _ _ _ (le-ltb k (length ys) l)))
    (cases_lt k (length ys))

-- the record that is found stands for the element that is found, at the same place
pub found_meaning : {X Y : Type 0} (f : X → Y) (number : Y → ℕ) (none : Y) (n : ℕ) (xs : List X)
    → option_map (placed f) (found (λ x. number (f x)) n xs) ≡ found_in number none n (map f xs)
found_meaning f number none n xs =
    let p = place number n (map f xs) in
    ap (λ k. option_map (placed f) (option_map (with_place k) (slice_get xs k))) (sym (place_map f number n xs))
    ∙ fused f p (slice_get xs p)
    ∙ ap (option_map (with_place p)) (sym (slice_get-map f xs p))
    ∙ at_place (map f xs) p none
