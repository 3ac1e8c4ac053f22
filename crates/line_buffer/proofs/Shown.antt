-- What the buffer shows: a part that is read, all durable once nothing is held, and what survives of it.
use Rattle.std.proofs.Common.{◌≡◌, ℕ, ◌+◌, ◌<◌, ◌≤◌, Bool, true, not, List, [], length, get_or, drop, is_some, None, Option, unwrap_or, sym, ap, ◌∙◌, ⊎_elim, arith}
use Rattle.std.proofs.lemmas.List.{ext_get_or, get_or-take, get_or-drop, get_or_past, length-take-le, length-drop}
use Rattle.std.proofs.lemmas.Bool.{cases_lt, and_parts, and_from, not-true, not_from_false}
use Rattle.model.specs.Memory.{part, AllDurable, Survived}
use Rattle.line_buffer.specs.declared.line.Line.{Line}
use Rattle.line_buffer.specs.Lines.{numbers, apart, held_at, laid, safe}
use Rattle.line_buffer.proofs.Laid.{none_of, length_laid, get_or_laid, get_or_laid_from}
use Rattle.line_buffer.proofs.Hold.{held_at_no_lines}
use Rattle.line_buffer.proofs.WriteBack.{laid_no_lines}

pub apart_none : (ls : List Line) → ls ≡ [] → apart (numbers ls) ≡ true
unfolding apart
apart_none ls e = ap (λ zs. apart (numbers zs)) e

pub laid_part : (h : ℕ → Option ℕ) (xs : List ℕ) (a n : ℕ) → a + n ≤ length xs → laid a h (part xs a n) ≡ part (laid 0 h xs) a n
laid_part h xs a n fit =
    let m : length (part xs a n) ≡ n = length-take-le n (drop a xs) (omega (arith, length-drop a xs)) in
    let m' : length (part (laid 0 h xs) a n) ≡ n = length-take-le n (drop a (laid 0 h xs)) (omega (arith, length-drop a (laid 0 h xs), length_laid 0 h xs)) in
    ext_get_or 0 (laid a h (part xs a n)) (part (laid 0 h xs) a n) (length_laid a h (part xs a n) ∙ m ∙ sym m')
    (λ k l.
    let lt : k < n = omega (arith, length_laid a h (part xs a n)) in
    get_or_laid a h (part xs a n) k (omega arith)
    ∙ ap (unwrap_or (h (a + k))) (get_or-take n (drop a xs) k 0 lt ∙ get_or-drop a xs k 0)
    ∙ sym (get_or-take n (drop a (laid 0 h xs)) k 0 lt ∙ get_or-drop a (laid 0 h xs) k 0 ∙ get_or_laid_from h xs (a + k) (omega arith)))

pub safe_no_lines : (ls : List Line) (d : ℕ → Bool) → ls ≡ [] → AllDurable d → AllDurable (safe ls d)
safe_no_lines ls d e all k =
    and_from _ _ (not_from_false _ (ap (λ zs. is_some (held_at zs k)) e ∙ ap is_some (held_at_no_lines k))) (all k)

pub survived_lines : (ls ls' : List Line) (xs ys : List ℕ) (d : ℕ → Bool) → ls' ≡ [] → Survived xs d ys → Survived (laid 0 (held_at ls) xs) (safe ls d) (laid 0 (held_at ls') ys)
survived_lines ls ls' xs ys d e s =
    let shows : laid 0 (held_at ls') ys ≡ ys = ap (λ zs. laid 0 (held_at zs) ys) e ∙ laid_no_lines ys in
    record {
      len = ap length shows ∙ s.len ∙ sym (length_laid 0 (held_at ls) xs);
      values = λ k t.
          let p = and_parts (not (is_some (held_at ls k))) (d k) t in
          let o : held_at ls k ≡ None = none_of (held_at ls k) (not-true _ p.0) in
          ap (λ zs. get_or zs k 0) shows ∙ s.values k p.1
          ∙ ⊎_elim
          (λ (l : k < length xs). sym (get_or_laid_from (held_at ls) xs k l ∙ ap (λ v. unwrap_or v (get_or xs k 0)) o))
          (λ (l : length xs ≤ k). get_or_past xs k 0 l ∙ sym (get_or_past (laid 0 (held_at ls) xs) k 0 (omega (arith, length_laid 0 (held_at ls) xs))))
          (cases_lt k (length xs));
    }
