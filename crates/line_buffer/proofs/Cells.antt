-- The cells of a line as bytes are written into it one by one.
use Rattle.std.proofs.Common.{◌≡◌, ℕ, ◌+◌, ◌-◌, ◌/◌, ◌%◌, ◌<◌, ◌≤◌, cond, eqb, List, map, length, get_or, take, set, Some, None, Option, sym, ap, ◌∙◌, ⊎_elim, arith}
use Rattle.std.proofs.lemmas.List.{map_more, get_or-map, length-map, length-take-le}
use Rattle.std.proofs.lemmas.Bool.{cases_eq, cond-true, cond-false, eq-eqb, ne_eqb}
use Rattle.model.specs.Memory.{splice}
use Rattle.model.proofs.Splices.{splice_set, get_or_splice_below, get_or_splice_inside, get_or_splice_above}
use Rattle.line_buffer.specs.Lines.{line_bytes, written}
use Rattle.line_buffer.proofs.Written.{cases_named, written_inside, written_below, written_above, written_other_line}

pub with_more : (cs : List (Option ℕ)) (o i : ℕ) (bs : List ℕ) → o + length bs ≤ length cs → i < length bs → set (splice cs o (map Some (take i bs))) (o + i) (Some (get_or bs i 0)) ≡ splice cs o (map Some (take (i + 1) bs))
with_more cs o i bs fit h =
    let n : length (map Some (take i bs)) ≡ i = length-map (take i bs) Some ∙ length-take-le i bs (omega arith) in
    let s = splice_set cs o (map Some (take i bs)) (omega arith) (Some (get_or bs i 0)) (omega arith) in
    ap (λ j. set (splice cs o (map Some (take i bs))) (o + j) (Some (get_or bs i 0))) (sym n) ∙ s ∙ ap (splice cs o) (sym (map_more Some bs i 0 h))

-- what is held where one line, of known cells, was written into
pub written_line : (h : ℕ → Option ℕ) (cs : List (Option ℕ)) (a : ℕ) (bs : List ℕ) (k : ℕ) → length cs ≡ line_bytes → a % line_bytes + length bs ≤ line_bytes → (a / line_bytes ≡ k / line_bytes → h k ≡ get_or cs (k % line_bytes) None) → cond (eqb (a / line_bytes) (k / line_bytes)) (get_or (splice cs (a % line_bytes) (map Some bs)) (k % line_bytes) None) (h k) ≡ written h a bs k
written_line h cs a bs k w fit same =
    let n : length (map Some bs) ≡ length bs = length-map bs Some in
    let fits : a % line_bytes + length (map Some bs) ≤ length cs = omega arith in
    ⊎_elim
    (λ (e : a / line_bytes ≡ k / line_bytes).
    cond-true _ _ _ (eq-eqb _ _ e)
    ∙ cases_named a (length bs) k
    (λ lt. get_or_splice_below cs (a % line_bytes) (map Some bs) fits (k % line_bytes) None (omega arith) ∙ sym (same e) ∙ sym (written_below h a bs k lt))
    (λ le lt.
    let z : k % line_bytes - a % line_bytes ≡ k - a = omega arith in
    get_or_splice_inside cs (a % line_bytes) (map Some bs) fits (k % line_bytes) None (omega arith) (omega arith)
    ∙ ap (λ j. get_or (map Some bs) j None) z ∙ get_or-map Some bs (k - a) 0 None (omega arith) ∙ sym (written_inside h a bs k le lt))
    (λ ge. get_or_splice_above cs (a % line_bytes) (map Some bs) fits (k % line_bytes) None (omega arith) ∙ sym (same e) ∙ sym (written_above h a bs k ge)))
    (λ (e : a / line_bytes ≡ k / line_bytes → ⊥).
    cond-false _ _ _ (ne_eqb _ _ e) ∙ sym (written_other_line h a bs k fit (λ z. e (sym z))))
    (cases_eq (a / line_bytes) (k / line_bytes))
