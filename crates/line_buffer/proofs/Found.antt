-- The first line with a number, and what it says of the numbers.
use Rattle.std.proofs.Common.{◌≡◌, ℕ, ◌<◌, ◌≤◌, Bool, true, false, eqb, ltb, List, [], length, get_or, is_some, Some, None, Option, MatchOption, sym, ◌∙◌, subst, ⊎_elim, arith}
use Rattle.std.specs.List.{position, position_or_len}
use Rattle.std.proofs.lemmas.List.{get_or-map, length-map}
use Rattle.std.proofs.lemmas.List.Quantifiers.{position-Some}
use Rattle.std.proofs.lemmas.List.Sums.{fails_before_first}
use Rattle.std.proofs.lemmas.Bool.{cases_Bool, cond-true, eqb-true, eqb-false, ltb-false, or_left}
use Rattle.line_buffer.specs.declared.line.Line.{Line}
use Rattle.line_buffer.specs.Lines.{line_number, numbers, member, takes}
use Rattle.line_buffer.proofs.Distinct.{get_or_member, none_member}

abbrev blank : Line
blank = record { number = 0; cells = [] }

abbrev pub has_number : ℕ → Line → Bool
has_number n l = eqb (line_number l) n

abbrev pub Found : ℕ → List Line → Option ℕ → Type 0
Found n ls r = MatchOption r (member n (numbers ls) ≡ false) (λ i. (i < length ls) × (get_or (numbers ls) i 0 ≡ n))

pub found : (n : ℕ) (ls : List Line) (r : Option ℕ) → r ≡ position (has_number n) ls → Found n ls r
found n ls None e =
    let p = position_or_len (has_number n) ls in
    let past : length ls ≤ p =
    ⊎_elim
    (λ (t : ltb p (length ls) ≡ true). let some : None ≡ Some p = e ∙ cond-true _ _ _ t in cc)
    (λ (t : ltb p (length ls) ≡ false). ltb-false _ _ t)
    (cases_Bool (ltb p (length ls))) in
    none_member (numbers ls) n (λ k l z.
    let lt : k < length ls = omega (arith, length-map ls line_number) in
    eqb-false _ _ (fails_before_first (has_number n) ls k blank (omega arith)) (sym (get_or-map line_number ls k blank 0 lt) ∙ z))
found n ls (Some i) e =
    let s = position-Some (has_number n) ls i blank (sym e) in
    (s.0, get_or-map line_number ls i blank 0 s.0 ∙ eqb-true _ _ s.1)

pub takes_found : (n : ℕ) (ls : List Line) (r : Option ℕ) → Found n ls r → is_some r ≡ true → takes (numbers ls) n ≡ true
takes_found n ls None f t = cc
takes_found n ls (Some i) f t =
    or_left _ _ (subst (λ m. member m (numbers ls) ≡ true) f.1 (get_or_member (numbers ls) i (omega (arith, f.0, length-map ls line_number))))
