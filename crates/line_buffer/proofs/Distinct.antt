-- Laws of `member` and `apart`: one more number at the end, and one taken out.
use Rattle.std.proofs.Common.{◌≡◌, ℕ, zero, suc, ◌<◌, true, false, not, ◌||◌, eqb, List, [], ◌∷◌, ◌++◌, length, get_or, take, sym, refl, ap, ◌∙◌, ⊎_elim, arith}
use Rattle.std.specs.List.{remove}
use Rattle.std.proofs.Math.Bool.{or-false}
use Rattle.std.proofs.lemmas.Bool.{and_parts, and_from, or_parts, or_from, or_left, or_right, not-true, not_from_false, eqb-false, eq-eqb, ne_eqb, both_ways, cases_Bool, cond-true, cond-false}
use Rattle.line_buffer.specs.Lines.{numbers_with, member, apart}

pub member_none : (n : ℕ) → member n [] ≡ false
unfolding member
member_none n = refl

pub member_one : (n m : ℕ) → member n (m ∷ []) ≡ eqb n m
unfolding member
member_one n m = or-false (eqb n m)

pub member_append : (n : ℕ) (ms ks : List ℕ) → member n (ms ++ ks) ≡ (member n ms || member n ks)
unfolding member
member_append n [] ks = refl
member_append n (m ∷ ms) ks =
    elim (eqb n m) as (λ b. (b || member n (ms ++ ks)) ≡ ((b || member n ms) || member n ks))
    [ true ↦ refl | false ↦ member_append n ms ks ]

pub member_push : (n m : ℕ) (ms : List ℕ) → member n (ms ++ m ∷ []) ≡ (member n ms || eqb n m)
member_push n m ms = rw (member_append n ms (m ∷ []), member_one n m)

-- a number that stands in the list is a member, and one that is no member stands nowhere
pub get_or_member : (ms : List ℕ) (i : ℕ) → i < length ms → member (get_or ms i 0) ms ≡ true
unfolding member
get_or_member [] i h = absurd (omega arith)
get_or_member (m ∷ ms) zero h = or_left _ _ (eq-eqb m m refl)
get_or_member (m ∷ ms) (suc i) h = or_right (eqb (get_or ms i 0) m) _ (get_or_member ms i (omega arith))

pub none_member : (ms : List ℕ) (n : ℕ) → ((k : ℕ) → k < length ms → get_or ms k 0 ≡ n → ⊥) → member n ms ≡ false
unfolding member
none_member [] n o = refl
none_member (m ∷ ms) n o = or_from _ _ (ne_eqb n m (λ e. o 0 (omega arith) (sym e))) (none_member ms n (λ k l. o (suc k) (omega arith)))

pub apart_push : (ms : List ℕ) (m : ℕ) → apart ms ≡ true → member m ms ≡ false → apart (ms ++ m ∷ []) ≡ true
unfolding member apart
apart_push [] m a o = refl
apart_push (k ∷ ms) m a o =
    let p = and_parts (not (member k ms)) (apart ms) a in
    let q = or_parts (eqb m k) (member m ms) o in
    let ne : k ≡ m → ⊥ = λ e. eqb-false m k q.0 (sym e) in
    let w : member k (ms ++ m ∷ []) ≡ false = member_push k m ms ∙ or_from _ _ (not-true _ p.0) (ne_eqb k m ne) in
    and_from _ _ (not_from_false _ w) (apart_push ms m p.1 q.1)

-- a number that is added only where it is missing
pub apart_added : (ms ks : List ℕ) (m : ℕ) → apart ms ≡ true → ks ≡ numbers_with ms m → apart ks ≡ true
apart_added ms ks m a e =
    ⊎_elim
    (λ (t : member m ms ≡ true). ap apart (e ∙ cond-true _ _ _ t) ∙ a)
    (λ (t : member m ms ≡ false). ap apart (e ∙ cond-false _ _ _ t) ∙ apart_push ms m a t)
    (cases_Bool (member m ms))

pub member_removed_other : (ms : List ℕ) (i j : ℕ) → i < length ms → (j ≡ get_or ms i 0 → ⊥) → member j (remove ms i) ≡ member j ms
unfolding member
member_removed_other [] i j h ne = absurd (omega arith)
member_removed_other (m ∷ ms) zero j h ne = sym (ap (λ b. b || member j ms) (ne_eqb j m ne))
member_removed_other (m ∷ ms) (suc i) j h ne = ap (λ b. eqb j m || b) (member_removed_other ms i j (omega arith) ne)

pub member_removed_less : (ms : List ℕ) (i j : ℕ) → member j ms ≡ false → member j (remove ms i) ≡ false
unfolding member
member_removed_less [] zero j o = refl
member_removed_less [] (suc i) j o = refl
member_removed_less (m ∷ ms) zero j o = (or_parts (eqb j m) (member j ms) o).1
member_removed_less (m ∷ ms) (suc i) j o =
    let q = or_parts (eqb j m) (member j ms) o in
    or_from _ _ q.0 (member_removed_less ms i j q.1)

pub member_removed_same : (ms : List ℕ) (i : ℕ) → apart ms ≡ true → i < length ms → member (get_or ms i 0) (remove ms i) ≡ false
unfolding member apart
member_removed_same [] i a h = absurd (omega arith)
member_removed_same (m ∷ ms) zero a h = not-true _ (and_parts (not (member m ms)) (apart ms) a).0
member_removed_same (m ∷ ms) (suc i) a h =
    let p = and_parts (not (member m ms)) (apart ms) a in
    let l : i < length ms = omega arith in
    let ne : get_or ms i 0 ≡ m → ⊥ = λ e. both_ways (member m ms) (not-true _ p.0) (rw (sym e) (get_or_member ms i l)) in
    or_from _ _ (ne_eqb _ _ ne) (member_removed_same ms i p.1 l)

pub apart_removed : (ms : List ℕ) (i : ℕ) → apart ms ≡ true → apart (remove ms i) ≡ true
unfolding apart
apart_removed [] zero a = refl
apart_removed [] (suc i) a = refl
apart_removed (m ∷ ms) zero a = (and_parts (not (member m ms)) (apart ms) a).1
apart_removed (m ∷ ms) (suc i) a =
    let p = and_parts (not (member m ms)) (apart ms) a in
    and_from _ _ (not_from_false _ (member_removed_less ms i m (not-true _ p.0))) (apart_removed ms i p.1)

pub member_take : (ms : List ℕ) (i : ℕ) → apart ms ≡ true → i < length ms → member (get_or ms i 0) (take i ms) ≡ false
unfolding member apart
member_take [] i a h = absurd (omega arith)
member_take (m ∷ ms) zero a h = refl
member_take (m ∷ ms) (suc i) a h =
    let p = and_parts (not (member m ms)) (apart ms) a in
    let l : i < length ms = omega arith in
    let ne : get_or ms i 0 ≡ m → ⊥ = λ e. both_ways (member m ms) (not-true _ p.0) (rw (sym e) (get_or_member ms i l)) in
    or_from _ _ (ne_eqb _ _ ne) (member_take ms i p.1 l)
