-- The search by number, one element at a time.
use Rattle.std.proofs.Common.{◌≡◌, ℕ, suc, ◌<◌, ◌≤◌, eqb, List, [], ◌∷◌, length, Some, None, sym, refl, ap, ◌∙◌, arith}
use Rattle.std.proofs.lemmas.Bool.{eq-eqb, ne_eqb, lt-ltb, le-ltb, cond-true, cond-false}
use Rattle.model.specs.Lists.{place, place_in, stands}

pub place_none : {X : Type 0} (number : X → ℕ) (n : ℕ) → place number n [] ≡ 0
unfolding place
place_none number n = refl

pub place_here : {X : Type 0} (number : X → ℕ) (n : ℕ) (x : X) (xs : List X) → number x ≡ n → place number n (x ∷ xs) ≡ 0
unfolding place
place_here number n x xs e = cond-true (eqb (number x) n) 0 (suc (place number n xs)) (eq-eqb _ _ e)

pub place_more :
    {X : Type 0} (number : X → ℕ) (n : ℕ) (x : X) (xs : List X) →
    (number x ≡ n → ⊥) → place number n (x ∷ xs) ≡ suc (place number n xs)
unfolding place
place_more number n x xs e = cond-false (eqb (number x) n) 0 (suc (place number n xs)) (ne_eqb _ _ e)

-- ## The answer of a search

pub found_at :
    {X : Type 0} (number : X → ℕ) (n i : ℕ) (xs : List X) →
    i ≡ place number n xs → i < length xs → Some i ≡ place_in number n xs
found_at number n i xs e h =
    ap (λ k. Some k) e ∙ sym (cond-true (stands number n xs) (Some (place number n xs)) None (lt-ltb _ _ (omega arith)))

pub found_none :
    {X : Type 0} (number : X → ℕ) (n : ℕ) (xs : List X) →
    length xs ≤ place number n xs → None ≡ place_in number n xs
found_none number n xs h = sym (cond-false (stands number n xs) (Some (place number n xs)) None (le-ltb _ _ h))
