-- The tests and the search of the rules, as facts of every or of some element.
use Rattle.std.proofs.Common.{◌≡◌, ℕ, suc, Bool, true, false, cond, eqb, ltb, ◌⊎◌, List, [], ◌∷◌, length, get_or, refl, inl, inr, ⊎_elim, arith}
use Rattle.std.specs.List.{AllByRecursion as All}
use Rattle.std.proofs.lemmas.Bool.{cases_eq, both_ways, eq-eqb, ne_eqb, and_parts, or_cases, or_parts, or_left, or_right, ltb-true, lt-ltb}
use Rattle.model.specs.Lists.{some, every, only, place, stands}
use Rattle.model.proofs.core.Lists.{Some}

-- ## some, every, only

pub some_found : {X : Type 0} (t : X → Bool) (xs : List X) → some t xs ≡ true → Some (λ x. t x ≡ true) xs
unfolding some
some_found t [] h = absurd (both_ways false refl h)
some_found t (x ∷ xs) h = ⊎_elim inl (λ r. inr (some_found t xs r)) (or_cases (t x) (some t xs) h)

pub some_none : {X : Type 0} (t : X → Bool) (xs : List X) → some t xs ≡ false → All (λ x. t x ≡ false) xs
unfolding some
some_none t [] h = tt
some_none t (x ∷ xs) h = let p = or_parts (t x) (some t xs) h in (p.0, some_none t xs p.1)

pub some_from : {X : Type 0} (t : X → Bool) (xs : List X) → Some (λ x. t x ≡ true) xs → some t xs ≡ true
unfolding some
some_from t [] h = absurd h
some_from t (x ∷ xs) (inl h) = or_left (t x) (some t xs) h
some_from t (x ∷ xs) (inr h) = or_right (t x) (some t xs) (some_from t xs h)

pub every_all : {X : Type 0} (t : X → Bool) (xs : List X) → every t xs ≡ true → All (λ x. t x ≡ true) xs
unfolding every
every_all t [] h = tt
every_all t (x ∷ xs) h = let p = and_parts (t x) (every t xs) h in (p.0, every_all t xs p.1)

pub every_alike : {X : Type 0} (t u : X → Bool) (xs : List X) → All (λ x. t x ≡ u x) xs → every t xs ≡ every u xs
unfolding every
every_alike t u [] h = refl
every_alike t u (x ∷ xs) h = rw (h.0, every_alike t u xs h.1) refl

pub only_all : {X : Type 0} (P : X → Type 0) (t : X → Bool) (xs : List X) → All P xs → All P (only t xs)
unfolding only
only_all P t [] h = tt
only_all P t (x ∷ xs) h = go (t x) (only_all P t xs h.1)
  where
    go : (b : Bool) → All P (only t xs) → All P (cond b (x ∷ only t xs) (only t xs))
    go true r = (h.0, r)
    go false r = r

-- what passes a test, passes it
pub only_passes : {X : Type 0} (t : X → Bool) (xs : List X) → All (λ x. t x ≡ true) (only t xs)
unfolding only
only_passes t [] = tt
only_passes t (x ∷ xs) = go (t x) refl (only_passes t xs)
  where
    go : (b : Bool) → t x ≡ b → All (λ y. t y ≡ true) (only t xs) → All (λ y. t y ≡ true) (cond b (x ∷ only t xs) (only t xs))
    go true e r = (e, r)
    go false e r = r

pub only_some : {X : Type 0} (P : X → Type 0) (t : X → Bool) (xs : List X) → Some (λ x. (t x ≡ true) × P x) xs → Some P (only t xs)
unfolding only
only_some P t [] h = h
only_some P t (x ∷ xs) h = go (t x) refl h (only_some P t xs)
  where
    go : (b : Bool) → t x ≡ b → Some (λ y. (t y ≡ true) × P y) (x ∷ xs) → (Some (λ y. (t y ≡ true) × P y) xs → Some P (only t xs)) → Some P (cond b (x ∷ only t xs) (only t xs))
    go true e (inl z) r = inl z.1
    go true e (inr z) r = inr (r z)
    go false e (inl z) r = absurd (both_ways (t x) e z.0)
    go false e (inr z) r = r z

-- ## The search by number

module _ {X : Type 0} (number : X → ℕ) (n : ℕ) where
  pub stands_some : (xs : List X) → stands number n xs ≡ true → Some (λ x. number x ≡ n) xs
  unfolding place
  stands_some [] h = let z = ltb-true 0 0 h in omega arith
  stands_some (x ∷ xs) h = go (cases_eq (number x) n) (stands_some xs)
    where
      go : ((number x ≡ n) ⊎ (number x ≡ n → ⊥)) → (stands number n xs ≡ true → Some (λ x. number x ≡ n) xs) → Some (λ x. number x ≡ n) (x ∷ xs)
      go (inl e) r = inl e
      go (inr e) r =
          let h' : ltb (suc (place number n xs)) (suc (length xs)) ≡ true = rw (ne_eqb (number x) n e) at h in
          let l = ltb-true (suc (place number n xs)) (suc (length xs)) h' in
          inr (r (lt-ltb (place number n xs) (length xs) (omega arith)))

  pub some_stands : (xs : List X) → Some (λ x. number x ≡ n) xs → stands number n xs ≡ true
  unfolding place
  some_stands [] h = absurd h
  some_stands (x ∷ xs) h = go (cases_eq (number x) n) h (some_stands xs)
    where
      go : ((number x ≡ n) ⊎ (number x ≡ n → ⊥)) → Some (λ x. number x ≡ n) (x ∷ xs) → (Some (λ x. number x ≡ n) xs → stands number n xs ≡ true) → ltb (cond (eqb (number x) n) 0 (suc (place number n xs))) (suc (length xs)) ≡ true
      go (inl e) z r = rw (eq-eqb (number x) n e) (lt-ltb 0 (suc (length xs)) (omega arith))
      go (inr e) (inl z) r = absurd (e z)
      go (inr e) (inr z) r =
          let l = ltb-true (place number n xs) (length xs) (r z) in
          rw (ne_eqb (number x) n e) (lt-ltb (suc (place number n xs)) (suc (length xs)) (omega arith))

  pub stands_none : (xs : List X) → stands number n xs ≡ false → Some (λ x. number x ≡ n) xs → ⊥
  stands_none xs h x = both_ways (stands number n xs) h (some_stands xs x)

  -- the element that is found
  pub found_is : (xs : List X) (d : X) → Some (λ x. number x ≡ n) xs → number (get_or xs (place number n xs) d) ≡ n
  unfolding place
  found_is [] d h = absurd h
  found_is (x ∷ xs) d h = go (cases_eq (number x) n) h (found_is xs d)
    where
      go : ((number x ≡ n) ⊎ (number x ≡ n → ⊥)) → Some (λ x. number x ≡ n) (x ∷ xs) → (Some (λ x. number x ≡ n) xs → number (get_or xs (place number n xs) d) ≡ n) → number (get_or (x ∷ xs) (cond (eqb (number x) n) 0 (suc (place number n xs))) d) ≡ n
      go (inl e) z r = rw (eq-eqb (number x) n e) e
      go (inr e) (inl z) r = absurd (e z)
      go (inr e) (inr z) r = rw (ne_eqb (number x) n e) (r z)

  pub found_all : (P : X → Type 0) (xs : List X) (d : X) → Some (λ x. number x ≡ n) xs → All P xs → P (get_or xs (place number n xs) d)
  unfolding place
  found_all P [] d h a = absurd h
  found_all P (x ∷ xs) d h a = go (cases_eq (number x) n) h (found_all P xs d)
    where
      go : ((number x ≡ n) ⊎ (number x ≡ n → ⊥)) → Some (λ x. number x ≡ n) (x ∷ xs) → (Some (λ x. number x ≡ n) xs → All P xs → P (get_or xs (place number n xs) d)) → P (get_or (x ∷ xs) (cond (eqb (number x) n) 0 (suc (place number n xs))) d)
      go (inl e) z r = rw (eq-eqb (number x) n e) a.0
      go (inr e) (inl z) r = absurd (e z)
      go (inr e) (inr z) r = rw (ne_eqb (number x) n e) (r z a.1)
