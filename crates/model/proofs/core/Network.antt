-- Counting the prepares under way.
use Rattle.std.proofs.Common.{◌≡◌, ℕ, zero, suc, ◌+◌, ◌≤◌, Bool, true, false, cond, ◌&&◌, ◌||◌, eqb, ◌⊎◌, List, [], ◌∷◌, ◌++◌, sym, refl, inl, inr, arith}
use Rattle.std.proofs.lemmas.Bool.{cases_eq, ne_eqb, eq-eqb}
use Rattle.model.proofs.core.Lists.{At, without, has, Distinct}
use Rattle.model.proofs.core.State.{Claim, says_prepare, prepares_in, prepares, prepare_each}

pub prepares_without : (n q i : ℕ) (ms : List Claim) → prepares n q (without i ms) ≤ prepares n q ms
unfolding prepares without
prepares_without n q i [] = omega arith
prepares_without n q zero (m ∷ ms) = omega arith
prepares_without n q (suc i) (m ∷ ms) = omega (arith, prepares_without n q i ms)

prepares_in_self : (n q : ℕ) → prepares_in n q (says_prepare n q) ≡ 1
unfolding prepares_in
prepares_in_self n q = rw (eq-eqb n n refl, eq-eqb q q refl) refl

pub prepares_at : (n q i : ℕ) (ms : List Claim) → At i ms (says_prepare n q) → prepares n q ms ≡ suc (prepares n q (without i ms))
unfolding prepares without
prepares_at n q i [] h = absurd h
prepares_at n q zero (m ∷ ms) h = rw (h, prepares_in_self n q) (omega arith)
prepares_at n q (suc i) (m ∷ ms) h = omega (arith, prepares_at n q i ms h)

pub prepares_append : (n q : ℕ) (xs ys : List Claim) → prepares n q (xs ++ ys) ≡ prepares n q xs + prepares n q ys
unfolding prepares
prepares_append n q [] ys = omega arith
prepares_append n q (m ∷ ms) ys = omega (arith, prepares_append n q ms ys)

pub prepares_none : (n q : ℕ) → prepares n q [] ≡ 0
unfolding prepares
prepares_none n q = refl

pub prepares_one : (m : Claim) → ((n q : ℕ) → prepares_in n q m ≡ 0) → (n q : ℕ) → prepares n q (m ∷ []) ≡ 0
unfolding prepares
prepares_one m h n q = omega (arith, h n q)

-- ## The prepares that an opening sends

pub prepares_of_other : (n m q : ℕ) (qs : List ℕ) → (m ≡ n → ⊥) → prepares n q (prepare_each m qs) ≡ 0
unfolding prepares prepare_each prepares_in
prepares_of_other n m q [] h = refl
prepares_of_other n m q (p ∷ ps) h = rw (ne_eqb m n h) (omega (arith, prepares_of_other n m q ps h))

prepares_of_each : (n q : ℕ) (qs : List ℕ) → Distinct qs → prepares n q (prepare_each n qs) ≤ cond (has q qs) 1 0
unfolding prepares prepare_each has prepares_in
prepares_of_each n q [] o = omega arith
prepares_of_each n q (p ∷ ps) o = go (cases_eq p q) (prepares_of_each n q ps o.1)
  where
    go : ((p ≡ q) ⊎ (p ≡ q → ⊥)) → prepares n q (prepare_each n ps) ≤ cond (has q ps) 1 0 → cond (eqb n n && eqb p q) 1 0 + prepares n q (prepare_each n ps) ≤ cond (eqb q p || has q ps) 1 0
    go (inl e) h =
        let z : has q ps ≡ false = rw e at o.0 in
        let h' : prepares n q (prepare_each n ps) ≤ 0 = rw z at h in
        rw (e, eq-eqb n n refl, eq-eqb q q refl) (omega (arith, h'))
    go (inr e) h = rw (eq-eqb n n refl, ne_eqb p q e, ne_eqb q p (λ r. e (sym r))) (omega (arith, h))

pub prepares_of_each_one : (n q : ℕ) (qs : List ℕ) → Distinct qs → prepares n q (prepare_each n qs) ≤ 1
prepares_of_each_one n q qs o = go (has q qs) (prepares_of_each n q qs o)
  where
    go : (c : Bool) → prepares n q (prepare_each n qs) ≤ cond c 1 0 → prepares n q (prepare_each n qs) ≤ 1
    go true h = h
    go false h = let z : prepares n q (prepare_each n qs) ≤ 0 = h in omega arith
