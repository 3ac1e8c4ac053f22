-- What is held after bytes of one line are written into it, where it was held and where it is new; and the lines one by one.
use Rattle.std.proofs.Common.{◌≡◌, ℕ, ◌+◌, ◌/◌, ◌%◌, ◌<◌, ◌≤◌, true, false, cond, eqb, List, [], ◌∷◌, ◌++◌, map, length, get_or, take, set, replicate, Some, None, unwrap_or, sym, refl, ap, ◌∙◌, subst, ⊎_elim, arith}
use Rattle.std.proofs.lemmas.List.{take-map, take_more, get_or-map, map-set, map-append, set-get_or, length-map, get_or-replicate}
use Rattle.std.proofs.lemmas.Bool.{cases_eq, cond-true, cond-false, eq-eqb, ne_eqb}
use Rattle.model.specs.Memory.{splice}
use Rattle.line_buffer.specs.declared.line.Line.{Line}
use Rattle.line_buffer.specs.Lines.{numbers_with, line_bytes, line_number, numbers, member, apart, cell_at, held_at, written}
use Rattle.line_buffer.proofs.Distinct.{get_or_member, member_take}
use Rattle.line_buffer.proofs.Held.{held_at_none, held_at_at, held_at_set, held_at_push, get_or_numbers}
use Rattle.line_buffer.proofs.Cells.{written_line}

module _ (ls : List Line) (a : ℕ) (bs : List ℕ) (fit : a % line_bytes + length bs ≤ line_bytes) where
  pub held_at_found : (i : ℕ) (l l' : Line) → apart (numbers ls) ≡ true → i < length ls → l ≡ get_or ls i l → l.number ≡ a / line_bytes → l'.number ≡ l.number → l'.cells ≡ splice l.cells (a % line_bytes) (map Some bs) → length l.cells ≡ line_bytes → (k : ℕ) → held_at (set ls i l') k ≡ written (held_at ls) a bs k
  held_at_found i l l' ap' h r q n cs w k =
      let e : l'.number ≡ a / line_bytes = n ∙ q in
      held_at_set ls i l' k ap' h (get_or_numbers ls i l h r ∙ sym n)
      ∙ ap (λ m. cond (eqb m (k / line_bytes)) (get_or l'.cells (k % line_bytes) None) (held_at ls k)) e
      ∙ ap (λ xs. cond (eqb (a / line_bytes) (k / line_bytes)) (get_or xs (k % line_bytes) None) (held_at ls k)) cs
      ∙ written_line (held_at ls) l.cells a bs k w fit
      (λ d. held_at_at ls i l k ap' h r (eq-eqb l.number (k / line_bytes) (q ∙ d)))

  pub numbers_found : (i : ℕ) (l l' : Line) → i < length ls → l ≡ get_or ls i l → l.number ≡ a / line_bytes → l'.number ≡ l.number → numbers (set ls i l') ≡ numbers_with (numbers ls) (a / line_bytes)
  numbers_found i l l' h r q n =
      let g = get_or_numbers ls i l h r in
      let t : member (a / line_bytes) (numbers ls) ≡ true =
      subst (λ m. member m (numbers ls) ≡ true) (g ∙ q) (get_or_member (numbers ls) i (omega (arith, length-map ls line_number))) in
      map-set line_number ls i l' ∙ ap (set (numbers ls) i) (n ∙ sym g) ∙ set-get_or (numbers ls) i 0 ∙ sym (cond-true _ _ _ t)

  pub held_at_fresh : (l' : Line) → member (a / line_bytes) (numbers ls) ≡ false → l'.number ≡ a / line_bytes → l'.cells ≡ splice (replicate 16 None) (a % line_bytes) (map Some bs) → (k : ℕ) → held_at (ls ++ l' ∷ []) k ≡ written (held_at ls) a bs k
  held_at_fresh l' o n cs k =
      held_at_push ls l' k (ap (λ m. member m (numbers ls)) n ∙ o)
      ∙ ap (λ m. cond (eqb m (k / line_bytes)) (get_or l'.cells (k % line_bytes) None) (held_at ls k)) n
      ∙ ap (λ xs. cond (eqb (a / line_bytes) (k / line_bytes)) (get_or xs (k % line_bytes) None) (held_at ls k)) cs
      ∙ written_line (held_at ls) (replicate 16 None) a bs k refl fit
      (λ d. held_at_none ls k (ap (λ m. member m (numbers ls)) (sym d) ∙ o) ∙ sym (get_or-replicate 16 (k % line_bytes) None None (omega arith)))

  pub numbers_fresh : (l' : Line) → member (a / line_bytes) (numbers ls) ≡ false → l'.number ≡ a / line_bytes → numbers (ls ++ l' ∷ []) ≡ numbers_with (numbers ls) (a / line_bytes)
  numbers_fresh l' o n =
      map-append line_number ls (l' ∷ []) ∙ ap (λ m. numbers ls ++ m ∷ []) n ∙ sym (cond-false _ _ _ o)

-- the held lines, laid over one after the other
pub unwrap_or_lines_more : (ls : List Line) (i : ℕ) (d : Line) → apart (numbers ls) ≡ true → i < length ls → (k v : ℕ) → unwrap_or (cell_at (get_or ls i d) k) (unwrap_or (held_at (take i ls) k) v) ≡ unwrap_or (held_at (take (i + 1) ls) k) v
unwrap_or_lines_more ls i d a h k v =
    let l = get_or ls i d in
    let n' : i < length (numbers ls) = omega (arith, length-map ls line_number) in
    let g : get_or (numbers ls) i 0 ≡ l.number = get_or-map line_number ls i d 0 h in
    let o : member l.number (numbers (take i ls)) ≡ false =
    ap (member l.number) (sym (take-map line_number i ls)) ∙ subst (λ m. member m (take i (numbers ls)) ≡ false) g (member_take (numbers ls) i a n') in
    let t : held_at (take (i + 1) ls) k ≡ cond (eqb l.number (k / line_bytes)) (get_or l.cells (k % line_bytes) None) (held_at (take i ls) k) =
    ap (λ xs. held_at xs k) (take_more ls i d h) ∙ held_at_push (take i ls) l k o in
    ⊎_elim
    (λ (e : l.number ≡ k / line_bytes).
    let z : held_at (take i ls) k ≡ None = held_at_none (take i ls) k (subst (λ m. member m (numbers (take i ls)) ≡ false) e o) in
    ap (λ w. unwrap_or (cell_at l k) (unwrap_or w v)) z
    ∙ ap (λ w. unwrap_or w v) (cond-true _ _ _ (eq-eqb _ _ e) ∙ sym (t ∙ cond-true _ _ _ (eq-eqb _ _ e))))
    (λ (e : l.number ≡ k / line_bytes → ⊥).
    ap (λ w. unwrap_or w (unwrap_or (held_at (take i ls) k) v)) (cond-false _ _ _ (ne_eqb _ _ e))
    ∙ ap (λ w. unwrap_or w v) (sym (t ∙ cond-false _ _ _ (ne_eqb _ _ e))))
    (cases_eq l.number (k / line_bytes))

pub held_at_no_lines : (k : ℕ) → held_at [] k ≡ None
unfolding held_at
held_at_no_lines k = refl
