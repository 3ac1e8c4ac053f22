-- What one byte, and one line, written back leaves in the memory below.
use Rattle.std.proofs.Common.{◌≡◌, ℕ, ◌+◌, ◌-◌, ◌*◌, ◌/◌, ◌%◌, ◌<◌, true, false, cond, eqb, List, [], ◌∷◌, length, get_or, set, is_ok, Some, None, Ok, Err, Result, unwrap_or, sym, ap, ◌∙◌, ⊎_elim, add-one, arith}
use Rattle.std.specs.List.{remove}
use Rattle.std.proofs.lemmas.List.{set_split}
use Rattle.std.proofs.lemmas.Bool.{cases_eq, cases_Bool, cond-true, cond-false, eq-eqb, ne_eqb, leb-true, leb-false}
use Rattle.model.specs.Memory.{within, splice}
use Rattle.line_buffer.specs.declared.line.Line.{Line}
use Rattle.line_buffer.specs.Lines.{only_at, line_bytes, numbers, apart, cell_at, held_at, laid}
use Rattle.line_buffer.proofs.Held.{held_at_at, held_at_removed, get_or_numbers}
use Rattle.line_buffer.proofs.Laid.{cond_none, laid_one, laid_one_outside, laid_laid, laid_nothing}
use Rattle.line_buffer.proofs.Hold.{held_at_no_lines}

pub splice_one : (xs : List ℕ) (p b : ℕ) → p < length xs → splice xs p (b ∷ []) ≡ set xs p b
splice_one xs p b h = rw add-one (sym (set_split xs p b h))

pub laid_write_one : {E : Type 0} (e : E) (xs ys : List ℕ) (p b : ℕ) (r : Result Unit E) → r ≡ cond (within xs p 1) (Ok tt) (Err e) → ys ≡ cond (is_ok r) (splice xs p (b ∷ [])) xs → ys ≡ laid 0 (only_at p (Some b)) xs
laid_write_one e xs ys p b r a w =
    ⊎_elim
    (λ (t : within xs p 1 ≡ true).
    let o : is_ok r ≡ true = ap is_ok (a ∙ cond-true _ _ _ t) in
    let l : p < length xs = omega (arith, leb-true _ _ t) in
    let z : p ≡ p - 0 = omega arith in
    w ∙ cond-true _ _ _ o ∙ splice_one xs p b l ∙ ap (λ j. set xs j b) z ∙ laid_one 0 p b xs (omega arith) (omega arith))
    (λ (t : within xs p 1 ≡ false).
    let o : is_ok r ≡ false = ap is_ok (a ∙ cond-false _ _ _ t) in
    w ∙ cond-false _ _ _ o ∙ laid_one_outside 0 p (Some b) xs (λ _ l. omega (arith, leb-false _ _ t)))
    (cases_Bool (within xs p 1))

-- a byte that the line does not hold is not among those that go back
pub cell_none : (l : Line) (c p k : ℕ) → c < line_bytes → p ≡ l.number * line_bytes + c → cell_at l k ≡ None → cond (eqb k p) (get_or l.cells c None) None ≡ None
cell_none l c p k h at o =
    ⊎_elim
    (λ (e : k ≡ p).
    let d : l.number ≡ k / line_bytes = omega arith in
    let m : c ≡ k % line_bytes = omega arith in
    cond-true _ _ _ (eq-eqb _ _ e) ∙ ap (λ j. get_or l.cells j None) m ∙ sym (cond-true _ _ _ (eq-eqb _ _ d)) ∙ o)
    (λ (e : k ≡ p → ⊥). cond-false _ _ _ (ne_eqb _ _ e))
    (cases_eq k p)

-- what one of several lines holds
pub cell_at_line : (ls : List Line) (i : ℕ) (l : Line) (k : ℕ) → apart (numbers ls) ≡ true → i < length ls → l ≡ get_or ls i l → cell_at l k ≡ cond (eqb (get_or (numbers ls) i 0) (k / line_bytes)) (held_at ls k) None
cell_at_line ls i l k a h r =
    let g = get_or_numbers ls i l h r in
    ⊎_elim
    (λ (e : l.number ≡ k / line_bytes).
    cond-true _ _ _ (eq-eqb _ _ e) ∙ sym (held_at_at ls i l k a h r (eq-eqb _ _ e)) ∙ sym (cond-true _ _ _ (eq-eqb _ _ (g ∙ e))))
    (λ (e : l.number ≡ k / line_bytes → ⊥).
    cond-false _ _ _ (ne_eqb _ _ e) ∙ sym (cond-false _ _ _ (ne_eqb _ _ (λ x. e (sym g ∙ x)))))
    (cases_eq l.number (k / line_bytes))

pub cell_at_unheld : (ls : List Line) (i : ℕ) (l : Line) (k : ℕ) → apart (numbers ls) ≡ true → i < length ls → l ≡ get_or ls i l → held_at ls k ≡ None → cell_at l k ≡ None
cell_at_unheld ls i l k a h r o =
    cell_at_line ls i l k a h r ∙ ap (λ v. cond (eqb (get_or (numbers ls) i 0) (k / line_bytes)) v None) o ∙ cond_none _

-- the bytes that show are the same before and after a line goes back
pub laid_evicted : (ls ls' : List Line) (i : ℕ) (xs xs' : List ℕ) → apart (numbers ls) ≡ true → i < length ls → ls' ≡ remove ls i → xs' ≡ laid 0 (λ k. cond (eqb (get_or (numbers ls) i 0) (k / line_bytes)) (held_at ls k) None) xs → laid 0 (held_at ls') xs' ≡ laid 0 (held_at ls) xs
laid_evicted ls ls' i xs xs' a h e b =
    ap (λ zs. laid 0 (held_at zs) xs') e ∙ ap (laid 0 (held_at (remove ls i))) b
    ∙ laid_laid 0 _ (held_at (remove ls i)) (held_at ls) xs
    (λ k v. ⊎_elim
    (λ (z : get_or (numbers ls) i 0 ≡ k / line_bytes).
    ap (λ u. unwrap_or u (unwrap_or (cond (eqb (get_or (numbers ls) i 0) (k / line_bytes)) (held_at ls k) None) v)) (held_at_removed ls i k a h ∙ cond-true _ _ _ (eq-eqb _ _ z))
    ∙ ap (λ u. unwrap_or u v) (cond-true _ _ _ (eq-eqb _ _ z)))
    (λ (z : get_or (numbers ls) i 0 ≡ k / line_bytes → ⊥).
    ap (λ u. unwrap_or u (unwrap_or (cond (eqb (get_or (numbers ls) i 0) (k / line_bytes)) (held_at ls k) None) v)) (held_at_removed ls i k a h ∙ cond-false _ _ _ (ne_eqb _ _ z))
    ∙ ap (λ u. unwrap_or (held_at ls k) (unwrap_or u v)) (cond-false _ _ _ (ne_eqb _ _ z)))
    (cases_eq (get_or (numbers ls) i 0) (k / line_bytes)))

pub laid_no_lines : (xs : List ℕ) → laid 0 (held_at []) xs ≡ xs
laid_no_lines xs = sym (laid_nothing 0 (held_at []) xs held_at_no_lines)
