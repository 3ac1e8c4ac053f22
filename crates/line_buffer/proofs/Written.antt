-- Laws of `written` and `named`, and of the lines that are missing.
use Rattle.std.proofs.Common.{◌≡◌, ℕ, ◌+◌, ◌-◌, ◌/◌, ◌%◌, ◌<◌, ◌≤◌, true, false, cond, List, [], ◌++◌, length, get_or, Some, None, Option, sym, refl, ap, ◌∙◌, ⊎_elim, zero-add, add-one, arith}
use Rattle.std.proofs.lemmas.List.{length-append, get_or_append_left, get_or-append_right}
use Rattle.std.proofs.lemmas.Bool.{cases_lt, cond-true, cond-false, and_left, and_right, and_from, le-leb, lt-leb, lt-ltb, le-ltb}
use Rattle.model.specs.Memory.{named}
use Rattle.line_buffer.specs.Lines.{line_bytes, member, written, missing}

-- the three places of an address against a range
pub cases_named : {P : Type 0} (a n k : ℕ) → (k < a → P) → (a ≤ k → k < a + n → P) → (a + n ≤ k → P) → P
cases_named a n k p q r =
    ⊎_elim p (λ (le : a ≤ k). ⊎_elim (λ (lt : k < a + n). q le lt) r (cases_lt k (a + n))) (cases_lt k a)

pub named_below_lem : (a n k : ℕ) → k < a → named a n k ≡ false
named_below_lem a n k h = and_left _ _ (lt-leb a k h)

pub named_inside : (a n k : ℕ) → a ≤ k → k < a + n → named a n k ≡ true
named_inside a n k h l = and_from _ _ (le-leb a k h) (lt-ltb k (a + n) l)

pub named_above : (a n k : ℕ) → a + n ≤ k → named a n k ≡ false
named_above a n k h = and_right _ _ (le-ltb k (a + n) h)

pub written_inside : (h : ℕ → Option ℕ) (a : ℕ) (ys : List ℕ) (k : ℕ) → a ≤ k → k < a + length ys → written h a ys k ≡ Some (get_or ys (k - a) 0)
written_inside h a ys k le lt = cond-true _ _ _ (named_inside a (length ys) k le lt)

pub written_below : (h : ℕ → Option ℕ) (a : ℕ) (ys : List ℕ) (k : ℕ) → k < a → written h a ys k ≡ h k
written_below h a ys k lt = cond-false _ _ _ (named_below_lem a (length ys) k lt)

pub written_above : (h : ℕ → Option ℕ) (a : ℕ) (ys : List ℕ) (k : ℕ) → a + length ys ≤ k → written h a ys k ≡ h k
written_above h a ys k le = cond-false _ _ _ (named_above a (length ys) k le)

-- bytes that lie within one line leave every other line alone
pub written_other_line : (h : ℕ → Option ℕ) (a : ℕ) (ys : List ℕ) (k : ℕ) → a % line_bytes + length ys ≤ line_bytes → (k / line_bytes ≡ a / line_bytes → ⊥) → written h a ys k ≡ h k
written_other_line h a ys k fit e =
    cases_named a (length ys) k (written_below h a ys k)
    (λ le lt. absurd (e (omega arith)))
    (written_above h a ys k)

-- nothing is written
pub written_nothing : (h : ℕ → Option ℕ) (a k : ℕ) → written h a [] k ≡ h k
written_nothing h a k = cases_named a 0 k (written_below h a [] k) (λ le lt. absurd (omega arith)) (written_above h a [] k)

-- where nothing is held after a write, the address was not written and nothing was held
pub written_none : (h : ℕ → Option ℕ) (a : ℕ) (ys : List ℕ) (k : ℕ) → written h a ys k ≡ None → ((k < a → ⊥) → a + length ys ≤ k) × (h k ≡ None)
written_none h a ys k o =
    cases_named a (length ys) k
    (λ lt. ((λ z. absurd (z lt)), sym (written_below h a ys k lt) ∙ o))
    (λ le lt. let s = sym (written_inside h a ys k le lt) ∙ o in let z : ◌≡◌ {A = ℕ} 0 1 = cc in absurd (omega arith))
    (λ le. ((λ _. le), sym (written_above h a ys k le) ∙ o))

-- one piece after the other
pub written_written : (h : ℕ → Option ℕ) (a : ℕ) (ys zs : List ℕ) (k : ℕ) → written (written h a ys) (a + length ys) zs k ≡ written h a (ys ++ zs) k
written_written h a ys zs k =
    let n = length-append ys zs in
    cases_named a (length ys) k
    (λ lt. written_below (written h a ys) (a + length ys) zs k (omega arith) ∙ written_below h a ys k lt ∙ sym (written_below h a (ys ++ zs) k lt))
    (λ le lt.
    written_below (written h a ys) (a + length ys) zs k lt ∙ written_inside h a ys k le lt
    ∙ ap Some (sym (get_or_append_left ys zs 0 (k - a) (omega arith))) ∙ sym (written_inside h a (ys ++ zs) k le (omega arith)))
    (λ le.
    ⊎_elim
    (λ (lt : k < a + length ys + length zs).
    let e : k - a - length ys ≡ k - (a + length ys) = omega arith in
    written_inside (written h a ys) (a + length ys) zs k le lt
    ∙ ap Some (ap (λ j. get_or zs j 0) (sym e) ∙ sym (get_or-append_right ys zs (length ys) (k - a) 0 refl (omega arith)))
    ∙ sym (written_inside h a (ys ++ zs) k (omega arith) (omega arith)))
    (λ (ge : a + length ys + length zs ≤ k).
    written_above (written h a ys) (a + length ys) zs k ge ∙ written_above h a ys k le ∙ sym (written_above h a (ys ++ zs) k (omega arith)))
    (cases_lt k (a + length ys + length zs)))

-- what is held beforehand may be given in another form
pub written_same : (f h : ℕ → Option ℕ) (a : ℕ) (ys : List ℕ) (k : ℕ) → f k ≡ h k → written f a ys k ≡ written h a ys k
written_same f h a ys k e = ap (λ v. cond (named a (length ys) k) (Some (get_or ys (k - a) 0)) v) e

-- missing lines
pub missing_none : (ns : List ℕ) (q : ℕ) → missing ns q 0 ≡ 0
unfolding missing
missing_none ns q = refl

pub missing_more : (ns : List ℕ) (q m : ℕ) → missing ns q (m + 1) ≡ missing ns q m + cond (member (q + m) ns) 0 1
unfolding missing
missing_more ns q m = rw add-one

pub missing_one : (ns : List ℕ) (q : ℕ) → missing ns q 1 ≡ cond (member q ns) 0 1
missing_one ns q =
    let e : 0 + 1 ≡ 1 = refl in
    let z : q + 0 ≡ q = omega arith in
    missing_more ns q 0 ∙ ap (λ v. v + cond (member (q + 0) ns) 0 1) (missing_none ns q) ∙ zero-add _ ∙ ap (λ j. cond (member j ns) 0 1) z
