-- Laws of `splice`: the length, each element, one splice after another, and what is read back.
use Rattle.std.proofs.Common.{◌≡◌, ℕ, ◌+◌, ◌-◌, ◌<◌, ◌≤◌, cond, List, [], ◌∷◌, ◌++◌, length, get_or, take, drop, set, sym, ap, ◌∙◌, append_assoc, add-zero, arith, length-append, rules}
use Rattle.std.proofs.lemmas.List.{places, same_lists, take-append-drop, take_at, drop_at, drop-drop, length-take-le, get_or-set_same}
use Rattle.std.proofs.lemmas.Bool.{cases_eq, le-leb}
use Rattle.model.specs.Bytes.{part, splice, placed}

-- ## Where the new elements fit

module _ {X : Type 0} (xs : List X) (a : ℕ) (ys : List X) (fit : a + length ys ≤ length xs) where
  pub length_splice : length (splice xs a ys) ≡ length xs
  length_splice = search (rules, places)

  pub get_or_splice_below : (k : ℕ) (d : X) → k < a → get_or (splice xs a ys) k d ≡ get_or xs k d
  get_or_splice_below k d h = grind (arith, places)

  pub get_or_splice_inside : (k : ℕ) (d : X) → a ≤ k → k < a + length ys → get_or (splice xs a ys) k d ≡ get_or ys (k - a) d
  get_or_splice_inside k d h h' = grind (arith, places)

  pub get_or_splice_above : (k : ℕ) (d : X) → a + length ys ≤ k → get_or (splice xs a ys) k d ≡ get_or xs k d
  get_or_splice_above k d h = grind (arith, places)

  pub splice_set : (y : X) → a + length ys < length xs → set (splice xs a ys) (a + length ys) y ≡ splice xs a (ys ++ y ∷ [])
  splice_set y h =
      same_lists _ _ (search (rules, places)) (λ k d l. grind (arith, places, get_or-set_same, cases_eq k (a + length ys)))

pub splice_whole : {X : Type 0} (xs ys : List X) → length ys ≡ length xs → splice xs 0 ys ≡ ys
splice_whole xs ys e = same_lists _ _ (search (rules, places)) (λ k d l. grind (arith, places))

pub part_splice : (xs ys : List ℕ) (a : ℕ) → a + length ys ≤ length xs → part (splice xs a ys) a (length ys) ≡ ys
part_splice xs ys a h = same_lists _ _ (search (rules, places)) (λ k d l. grind (arith, places))

-- ## One splice after another

pub splice_none : {X : Type 0} (xs : List X) (a : ℕ) → splice xs a [] ≡ xs
splice_none xs a = rw add-zero (take-append-drop a xs)

pub splice_start : {X : Type 0} (xs ys : List X) → splice xs 0 ys ≡ ys ++ drop (length ys) xs
splice_start xs ys = ap (λ n. ys ++ drop n xs) (omega arith)

-- a part, and then the next one right behind it
pub splice_more :
    {X : Type 0} (xs : List X) (a : ℕ) (ys zs : List X) →
    a ≤ length xs →
    splice (splice xs a ys) (a + length ys) zs ≡ splice xs a (ys ++ zs)
splice_more xs a ys zs h =
    let front = take a xs
    in let tail = drop (a + length ys) xs
    in let n : length (front ++ ys) ≡ a + length ys = length-append front ys ∙ ap (λ k. k + length ys) (length-take-le a xs h)
    in let same : splice xs a ys ≡ (front ++ ys) ++ tail = sym (append_assoc front ys tail)
    in let one : take (a + length ys) (splice xs a ys) ≡ front ++ ys =
    ap (take (a + length ys)) same ∙ take_at (front ++ ys) tail _ n
    in let two : drop (a + length ys) (splice xs a ys) ≡ tail =
    ap (drop (a + length ys)) same ∙ drop_at (front ++ ys) tail _ n
    in let three : drop (a + length ys + length zs) (splice xs a ys) ≡ drop (a + length (ys ++ zs)) xs =
    sym (drop-drop (length zs) (a + length ys) (splice xs a ys)) ∙
    ap (drop (length zs)) two ∙
    drop-drop (length zs) (a + length ys) xs ∙ ap (λ k. drop k xs) (omega (arith, length-append ys zs))
    in let rest = drop (a + length (ys ++ zs)) xs
    in rw (one, three) (append_assoc front ys (zs ++ rest) ∙ ap (λ t. front ++ t) (sym (append_assoc ys zs rest)))

-- ## Bytes that are put where they fit

pub placed_fits : (xs : List ℕ) (a : ℕ) (ys : List ℕ) → a + length ys ≤ length xs → placed xs a ys ≡ splice xs a ys
placed_fits xs a ys fits = ap (λ b. cond b (splice xs a ys) xs) (le-leb _ _ fits)

pub placed_more :
    (xs : List ℕ) (a : ℕ) (ys zs : List ℕ) →
    a + (length ys + length zs) ≤ length xs →
    placed (placed xs a ys) (a + length ys) zs ≡ splice xs a (ys ++ zs)
placed_more xs a ys zs fits =
    ap (λ b. placed b (a + length ys) zs) (placed_fits xs a ys (omega arith)) ∙
    placed_fits (splice xs a ys) (a + length ys) zs (omega (arith, length_splice xs a ys (omega arith))) ∙
    splice_more xs a ys zs (omega arith)
