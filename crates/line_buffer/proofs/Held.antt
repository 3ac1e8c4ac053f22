-- Laws of `held_at`: no line, one line changed, added or taken out.
use Rattle.std.proofs.Common.{◌≡◌, ℕ, zero, suc, ◌/◌, ◌%◌, ◌<◌, true, false, cond, not, eqb, List, [], ◌∷◌, ◌++◌, map, length, get_or, take, drop, set, None, sym, refl, ap, ◌∙◌, ⊎_elim, arith}
use Rattle.std.specs.List.{remove}
use Rattle.std.proofs.lemmas.List.{map-append, take-map, drop-map, length-map}
use Rattle.std.proofs.lemmas.Bool.{and_parts, or_parts, not-true, eqb-true, eqb-false, eq-eqb, ne_eqb, both_ways, cases_eq, cond-true, cond-false}
use Rattle.line_buffer.specs.declared.line.Line.{Line}
use Rattle.line_buffer.specs.Lines.{line_bytes, line_number, numbers, member, apart, held_at}
use Rattle.line_buffer.proofs.Distinct.{get_or_member}

pub held_at_none : (ls : List Line) (k : ℕ) → member (k / line_bytes) (numbers ls) ≡ false → held_at ls k ≡ None
unfolding member held_at
held_at_none [] k o = refl
held_at_none (l ∷ ls) k o =
    let q = or_parts (eqb (k / line_bytes) l.number) (member (k / line_bytes) (numbers ls)) o in
    cond-false _ _ _ (ne_eqb _ _ (λ e. eqb-false _ _ q.0 (sym e))) ∙ held_at_none ls k q.1

pub get_or_numbers : (ls : List Line) (i : ℕ) (l : Line) → i < length ls → l ≡ get_or ls i l → get_or (numbers ls) i 0 ≡ l.number
get_or_numbers [] i l h e = absurd (omega arith)
get_or_numbers (m ∷ ls) zero l h e = ap line_number (sym e)
get_or_numbers (m ∷ ls) (suc i) l h e = get_or_numbers ls i l (omega arith) e

-- what one line holds where its number stands
pub held_at_at : (ls : List Line) (i : ℕ) (l : Line) (k : ℕ) → apart (numbers ls) ≡ true → i < length ls → l ≡ get_or ls i l → eqb l.number (k / line_bytes) ≡ true → held_at ls k ≡ get_or l.cells (k % line_bytes) None
unfolding member apart held_at
held_at_at [] i l k a h e t = absurd (omega arith)
held_at_at (m ∷ ls) zero l k a h e t = rw (sym e) (cond-true _ _ _ t)
held_at_at (m ∷ ls) (suc i) l k a h e t =
    let p = and_parts (not (member m.number (numbers ls))) (apart (numbers ls)) a in
    let n : i < length ls = omega arith in
    let g : get_or (numbers ls) i 0 ≡ l.number = get_or_numbers ls i l n e in
    let n' : i < length (numbers ls) = rw (length-map ls line_number) n in
    let ne : m.number ≡ k / line_bytes → ⊥ =
    λ d. both_ways (member m.number (numbers ls)) (not-true _ p.0)
    (rw (d ∙ sym (eqb-true _ _ t) ∙ sym g) (get_or_member (numbers ls) i n')) in
    cond-false _ _ _ (ne_eqb _ _ ne) ∙ held_at_at ls i l k p.1 n e t

pub held_at_set : (ls : List Line) (i : ℕ) (l : Line) (k : ℕ) → apart (numbers ls) ≡ true → i < length ls → get_or (numbers ls) i 0 ≡ l.number → held_at (set ls i l) k ≡ cond (eqb l.number (k / line_bytes)) (get_or l.cells (k % line_bytes) None) (held_at ls k)
unfolding member apart held_at
held_at_set [] i l k a h e = absurd (omega arith)
held_at_set (m ∷ ls) zero l k a h e =
    rw e (elim (eqb l.number (k / line_bytes)) as (λ b. cond b (get_or l.cells (k % line_bytes) None) (held_at ls k) ≡ cond b (get_or l.cells (k % line_bytes) None) (cond b (get_or m.cells (k % line_bytes) None) (held_at ls k))) [ true ↦ refl | false ↦ refl ])
held_at_set (m ∷ ls) (suc i) l k a h e =
    let p = and_parts (not (member m.number (numbers ls))) (apart (numbers ls)) a in
    let n : i < length ls = omega arith in
    let n' : i < length (numbers ls) = rw (length-map ls line_number) n in
    let ne : l.number ≡ m.number → ⊥ =
    λ d. both_ways (member m.number (numbers ls)) (not-true _ p.0) (rw (sym d ∙ sym e) (get_or_member (numbers ls) i n')) in
    let r = held_at_set ls i l k p.1 n e in
    ⊎_elim
    (λ (d : m.number ≡ k / line_bytes).
    cond-true _ _ _ (eq-eqb _ _ d) ∙ sym (cond-false _ _ _ (ne_eqb _ _ (λ x. ne (x ∙ sym d))) ∙ cond-true _ _ _ (eq-eqb _ _ d)))
    (λ (d : m.number ≡ k / line_bytes → ⊥).
    cond-false _ _ _ (ne_eqb _ _ d) ∙ r ∙ ap (cond (eqb l.number (k / line_bytes)) (get_or l.cells (k % line_bytes) None)) (sym (cond-false _ _ _ (ne_eqb _ _ d))))
    (cases_eq m.number (k / line_bytes))

pub held_at_push : (ls : List Line) (l : Line) (k : ℕ) → member l.number (numbers ls) ≡ false → held_at (ls ++ l ∷ []) k ≡ cond (eqb l.number (k / line_bytes)) (get_or l.cells (k % line_bytes) None) (held_at ls k)
unfolding member held_at
held_at_push [] l k o = refl
held_at_push (m ∷ ls) l k o =
    let q = or_parts (eqb l.number m.number) (member l.number (numbers ls)) o in
    let r = held_at_push ls l k q.1 in
    ⊎_elim
    (λ (d : m.number ≡ k / line_bytes).
    cond-true _ _ _ (eq-eqb _ _ d) ∙ sym (cond-false _ _ _ (ne_eqb _ _ (λ x. eqb-false _ _ q.0 (x ∙ sym d))) ∙ cond-true _ _ _ (eq-eqb _ _ d)))
    (λ (d : m.number ≡ k / line_bytes → ⊥).
    cond-false _ _ _ (ne_eqb _ _ d) ∙ r ∙ ap (cond (eqb l.number (k / line_bytes)) (get_or l.cells (k % line_bytes) None)) (sym (cond-false _ _ _ (ne_eqb _ _ d))))
    (cases_eq m.number (k / line_bytes))

pub held_at_removed : (ls : List Line) (i : ℕ) (k : ℕ) → apart (numbers ls) ≡ true → i < length ls → held_at (remove ls i) k ≡ cond (eqb (get_or (numbers ls) i 0) (k / line_bytes)) None (held_at ls k)
unfolding member apart held_at
held_at_removed [] i k a h = absurd (omega arith)
held_at_removed (m ∷ ls) zero k a h =
    let p = and_parts (not (member m.number (numbers ls))) (apart (numbers ls)) a in
    ⊎_elim
    (λ (d : m.number ≡ k / line_bytes).
    held_at_none ls k (rw (sym d) (not-true _ p.0)) ∙ sym (cond-true _ _ _ (eq-eqb _ _ d)))
    (λ (d : m.number ≡ k / line_bytes → ⊥).
    sym (cond-false _ _ _ (ne_eqb _ _ d) ∙ cond-false _ _ _ (ne_eqb _ _ d)))
    (cases_eq m.number (k / line_bytes))
held_at_removed (m ∷ ls) (suc i) k a h =
    let p = and_parts (not (member m.number (numbers ls))) (apart (numbers ls)) a in
    let n : i < length ls = omega arith in
    let n' : i < length (numbers ls) = rw (length-map ls line_number) n in
    let ne : get_or (numbers ls) i 0 ≡ m.number → ⊥ =
    λ d. both_ways (member m.number (numbers ls)) (not-true _ p.0) (rw (sym d) (get_or_member (numbers ls) i n')) in
    let r = held_at_removed ls i k p.1 n in
    ⊎_elim
    (λ (d : m.number ≡ k / line_bytes).
    cond-true _ _ _ (eq-eqb _ _ d) ∙ sym (cond-false _ _ _ (ne_eqb _ _ (λ x. ne (x ∙ sym d))) ∙ cond-true _ _ _ (eq-eqb _ _ d)))
    (λ (d : m.number ≡ k / line_bytes → ⊥).
    cond-false _ _ _ (ne_eqb _ _ d) ∙ r ∙ ap (cond (eqb (get_or (numbers ls) i 0) (k / line_bytes)) None) (sym (cond-false _ _ _ (ne_eqb _ _ d))))
    (cases_eq m.number (k / line_bytes))

pub numbers_removed : (ls : List Line) (i : ℕ) → numbers (remove ls i) ≡ remove (numbers ls) i
numbers_removed ls i =
    map-append line_number (take i ls) (drop (suc i) ls)
    ∙ sym (ap (λ xs. xs ++ drop (suc i) (numbers ls)) (take-map line_number i ls) ∙ ap (λ xs. map line_number (take i ls) ++ xs) (drop-map line_number (suc i) ls))
