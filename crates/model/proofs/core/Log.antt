-- The log of yes entries with one more.
use Rattle.std.proofs.Common.{◌≡◌, ℕ, true, false, ◌&&◌, eqb, ◌⊎◌, List, [], ◌∷◌, sym, refl, inl, inr}
use Rattle.std.specs.List.{AllByRecursion as All}
use Rattle.std.proofs.lemmas.Bool.{cases_eq, both_ways, ne_eqb, eq-eqb, and_left, and_right, and_from, or_parts}
use Rattle.model.proofs.core.State.{Yes, logged, seen}

-- the yes entry of n at q, or another one
pub same_yes : (n q m p : ℕ) → ((m ≡ n) × (p ≡ q)) ⊎ (m ≡ n → p ≡ q → ⊥)
same_yes n q m p = go (cases_eq m n) (cases_eq p q)
  where
    go : ((m ≡ n) ⊎ (m ≡ n → ⊥)) → ((p ≡ q) ⊎ (p ≡ q → ⊥)) → ((m ≡ n) × (p ≡ q)) ⊎ (m ≡ n → p ≡ q → ⊥)
    go (inl e) (inl f) = inl (e, f)
    go (inl e) (inr f) = inr (λ _. f)
    go (inr e) f = inr (λ g _. e g)

other_test : (n q m p : ℕ) → (m ≡ n → p ≡ q → ⊥) → (eqb q p && eqb n m) ≡ false
other_test n q m p h = go (cases_eq m n)
  where
    go : ((m ≡ n) ⊎ (m ≡ n → ⊥)) → (eqb q p && eqb n m) ≡ false
    go (inl e) = and_left (eqb q p) (eqb n m) (ne_eqb q p (λ z. h e (sym z)))
    go (inr e) = and_right (eqb q p) (eqb n m) (ne_eqb n m (λ z. e (sym z)))

module _ {V : Type 0} (ys : List (Yes V)) (n q : ℕ) (m : ℕ → V) where
  abbrev pub more : List (Yes V)
  more = record { tid = n; place = q; saw = m } ∷ ys

  pub logged_here : logged more n q ≡ true
  unfolding logged
  logged_here = rw (eq-eqb q q refl, eq-eqb n n refl) refl

  pub logged_other : (k p : ℕ) → (k ≡ n → p ≡ q → ⊥) → logged more k p ≡ logged ys k p
  unfolding logged
  logged_other k p h = rw (other_test n q k p h) refl

  pub logged_more : (k p : ℕ) → logged ys k p ≡ true → logged more k p ≡ true
  logged_more k p h = go (same_yes n q k p)
    where
      go : (((k ≡ n) × (p ≡ q)) ⊎ (k ≡ n → p ≡ q → ⊥)) → logged more k p ≡ true
      go (inl e) = rw (e.0, e.1) logged_here
      go (inr e) = rw (logged_other k p e) h

  -- no such entry stands in the log
  pub logged_not : logged ys n q ≡ false → All (λ y. n ≡ y.tid → q ≡ y.place → ⊥) ys
  unfolding logged
  logged_not = go ys
    where
      go : (zs : List (Yes V)) → logged zs n q ≡ false → All (λ y. n ≡ y.tid → q ≡ y.place → ⊥) zs
      go [] h = tt
      go (y ∷ zs) h =
          let p = or_parts (eqb y.place q && eqb y.tid n) (logged zs n q) h in
          ((λ e f. both_ways (eqb y.place q && eqb y.tid n) p.0 (and_from (eqb y.place q) (eqb y.tid n) (eq-eqb y.place q (sym f)) (eq-eqb y.tid n (sym e)))), go zs p.1)

  pub seen_here : (M : ℕ → ℕ → V) → seen M more n q ≡ m
  unfolding seen
  seen_here M = rw (eq-eqb q q refl, eq-eqb n n refl) refl

  pub seen_other : (M : ℕ → ℕ → V) (k p : ℕ) → (k ≡ n → p ≡ q → ⊥) → seen M more k p ≡ seen M ys k p
  unfolding seen
  seen_other M k p h = rw (other_test n q k p h) refl
