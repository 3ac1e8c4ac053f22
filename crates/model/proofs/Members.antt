-- Tests over the participants of a minitransaction, taken node by node.
use Rattle.std.proofs.Common.{◌≡◌, ℕ, zero, suc, ◌<◌, Bool, true, false, cond, not, ◌&&◌, ◌||◌, eqb, ◌⊎◌, ⊎_elim, List, [], ◌∷◌, ◌++◌, length, get_or, set, sym, refl, ap, ◌∙◌, inl, inr, nat_lt, arith}
use Rattle.std.proofs.lemmas.Bool.{cases_eq, eq-eqb, ne_eqb}
use Rattle.std.proofs.lemmas.List.{get_or-set_same, get_or-set_other}
use Rattle.model.specs.Lists.{every}
use Rattle.model.specs.Numbers.{most_nodes}
use Rattle.model.specs.Participants.{includes, members, members_below}
use Rattle.std.specs.List.{list_all, zip, range_with_len}

every_append : {X : Type 0} (t : X → Bool) (xs ys : List X) → every t (xs ++ ys) ≡ (every t xs && every t ys)
unfolding every
every_append t [] ys = refl
every_append t (x ∷ xs) ys = go (t x) (every_append t xs ys)
  where
    go : (b : Bool) → every t (xs ++ ys) ≡ (every t xs && every t ys) → (b && every t (xs ++ ys)) ≡ ((b && every t xs) && every t ys)
    go true h = h
    go false h = refl

pub every_none : (t : ℕ → Bool) (ps : ℕ) → every t (members_below 0 ps) ≡ true
unfolding every members_below
every_none t ps = refl

pub every_below : (t : ℕ → Bool) (ps q : ℕ) → every t (members_below (suc q) ps) ≡ (every t (members_below q ps) && (not (includes ps q) || t q))
unfolding every members_below
every_below t ps q = every_append t (members_below q ps) (cond (includes ps q) (q ∷ []) []) ∙ ap (λ b. every t (members_below q ps) && b) (go (includes ps q) (t q))
  where
    go : (b c : Bool) → every t (cond b (q ∷ []) []) ≡ (not b || t q)
    go true c = one (t q)
      where
        one : (d : Bool) → (d && true) ≡ (false || d)
        one true = refl
        one false = refl
    go false c = refl

-- a participant of which it does not hold
pub every_fails : (t : ℕ → Bool) (ps q n : ℕ) → q < n → includes ps q ≡ true → t q ≡ false → every t (members_below n ps) ≡ false
every_fails t ps q zero l i f = absurd (omega arith)
every_fails t ps q (suc n) l i f = go (cases_eq q n) (λ l. every_fails t ps q n l i f)
  where
    go : ((q ≡ n) ⊎ (q ≡ n → ⊥)) → (q < n → every t (members_below n ps) ≡ false) → every t (members_below (suc n) ps) ≡ false
    go (inl e) h = every_below t ps n ∙ rw (sym e, i, f) (ends (every t (members_below q ps)))
      where
        ends : (b : Bool) → (b && false) ≡ false
        ends true = refl
        ends false = refl
    go (inr e) h = every_below t ps n ∙ rw (h (omega arith)) refl

-- two tests that agree on every node below a number
pub every_same : (t u : ℕ → Bool) (ps n : ℕ) → ((q : ℕ) → q < n → t q ≡ u q) → every t (members_below n ps) ≡ every u (members_below n ps)
every_same t u ps zero h = every_none t ps ∙ sym (every_none u ps)
every_same t u ps (suc n) h =
    every_below t ps n ∙ rw (every_same t u ps n (λ q l. h q (omega arith)), h n (omega arith)) (sym (every_below u ps n))

-- ## A list of what holds of each node

pub with_one : (fs : List Bool) (one q : ℕ) → ((one < length fs) ⊎ (q < length fs)) → get_or (set fs one true) q false ≡ (eqb q one || get_or fs q false)
with_one fs one q l = go (cases_eq q one)
  where
    within : q ≡ one → one < length fs
    within e = ⊎_elim (λ (h : one < length fs). h) (λ (h : q < length fs). omega (arith, e)) l

    go : ((q ≡ one) ⊎ (q ≡ one → ⊥)) → get_or (set fs one true) q false ≡ (eqb q one || get_or fs q false)
    go (inl e) = ap (λ n. get_or (set fs one true) n false) e ∙ get_or-set_same fs one true false (within e) ∙ sym (ap (λ b. b || get_or fs q false) (eq-eqb q one e))
    go (inr e) = get_or-set_other fs one q true false e ∙ sym (ap (λ b. b || get_or fs q false) (ne_eqb q one e))

-- ## Four nodes asked in turn

turn : (h i : Bool) → (h || not (true && i)) ≡ (not i || h)
turn true true = refl
turn true false = refl
turn false true = refl
turn false false = refl

to_left : (x y z w : Bool) → (x && (y && (z && (w && true)))) ≡ ((((true && x) && y) && z) && w)
to_left true true true true = refl
to_left true true true false = refl
to_left true true false w = refl
to_left true false z w = refl
to_left false y z w = refl

-- whether a node takes no part, or it holds of it
abbrev pub asked_of : ℕ → ℕ × Bool → Bool
asked_of ps p = p.1 || not (nat_lt p.0 most_nodes && includes ps p.0)

pub asked_all : (ps : ℕ) (hs : List Bool) → length hs ≡ 4 → list_all (asked_of ps) (zip (range_with_len 0 4) hs) ≡ every (λ q. get_or hs q false) (members ps)
asked_all ps [] l = absurd (omega arith)
asked_all ps (a ∷ []) l = absurd (omega arith)
asked_all ps (a ∷ b ∷ []) l = absurd (omega arith)
asked_all ps (a ∷ b ∷ c ∷ []) l = absurd (omega arith)
asked_all ps (a ∷ b ∷ c ∷ d ∷ []) l =
    let t : ℕ → Bool = λ q. get_or (a ∷ b ∷ c ∷ d ∷ []) q false
    in let x : ℕ → Bool = λ q. not (includes ps q) || t q
    in let left : list_all (asked_of ps) (zip (range_with_len 0 4) (a ∷ b ∷ c ∷ d ∷ [])) ≡ (x 0 && (x 1 && (x 2 && (x 3 && true)))) =
    rw (turn a (includes ps 0), turn b (includes ps 1), turn c (includes ps 2), turn d (includes ps 3)) refl
    in left ∙ to_left (x 0) (x 1) (x 2) (x 3) ∙
    sym (every_below t ps 3 ∙ ap (λ e. e && x 3) (every_below t ps 2 ∙ ap (λ e. e && x 2) (every_below t ps 1 ∙ ap (λ e. e && x 1) (every_below t ps 0 ∙ ap (λ e. e && x 0) (every_none t ps)))))
asked_all ps (a ∷ b ∷ c ∷ d ∷ e ∷ hs) l = absurd (omega arith)
