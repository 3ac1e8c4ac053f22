-- The search by number, and by tid over the entries that a journal shows.
use Rattle.std.proofs.Common.{◌≡◌, ℕ, ◌+◌, ◌<◌, true, cond, eqb, ltb, List, ◌∷◌, length, get_or, drop, Some, None, sym, refl, ap, ◌∙◌, arith}
use Rattle.std.proofs.lemmas.List.{drop_more}
use Rattle.std.proofs.lemmas.List.Recursion.{is_position_or_len}
use Rattle.std.proofs.lemmas.Option.{slice_get-get_or}
use Rattle.std.proofs.lemmas.Bool.{cond-true, lt-ltb, ltb-true}
use Rattle.std.specs.List.{slice_get, position}
use Rattle.model.specs.Lists.{place, place_in}
use Rattle.model.specs.Journal.{Journal as Log, Entry as PlainEntry, tid_of, no_entry, has_entry, entry_of}
use Rattle.model.proofs.Searching.{place_here, place_more}

pub place_in-position : {X : Type 0} (number : X → ℕ) (n : ℕ) (xs : List X) → place_in number n xs ≡ position (λ x. eqb (number x) n) xs
unfolding place
place_in-position number n xs =
    ap (λ k. cond (ltb k (length xs)) (Some k) None)
    (is_position_or_len (place number n) (λ x. eqb (number x) n) refl (λ x ys. ap (λ k. cond (eqb (number x) n) 0 k) (omega arith)) xs)

nth_first :
    {X : Type 0} (xs : List X) (k i : ℕ) (x : X) →
    k ≡ i → i < length xs → Some x ≡ slice_get xs k → drop i xs ≡ x ∷ drop (i + 1) xs
nth_first xs k i x e h n =
    let there = slice_get-get_or xs i x h
    in let at = ap (slice_get xs) e
    in let same : get_or xs i x ≡ x = cc
    in drop_more xs i x h ∙ ap (λ y. y ∷ drop (i + 1) xs) same

pub looked_here :
    (es : List PlainEntry) (tid k i : ℕ) (x : PlainEntry) →
    k ≡ i →
    i < length es →
    Some x ≡ slice_get es k →
    x.tid ≡ tid →
    i + place tid_of tid (drop i es) ≡ place tid_of tid es →
    (true ≡ ltb (place tid_of tid es) (length es)) × (k ≡ place tid_of tid es)
looked_here es tid k i x e h n same inv =
    let here = ap (place tid_of tid) (nth_first es k i x e h n) ∙ place_here tid_of tid x (drop (i + 1) es) same
    in let at : i ≡ place tid_of tid es = omega arith
    in (sym (lt-ltb _ _ (omega arith)), e ∙ at)

pub looked_past :
    (es : List PlainEntry) (tid k i : ℕ) (x : PlainEntry) →
    k ≡ i →
    i < length es →
    Some x ≡ slice_get es k →
    (x.tid ≡ tid → ⊥) →
    i + place tid_of tid (drop i es) ≡ place tid_of tid es →
    i + 1 + place tid_of tid (drop (i + 1) es) ≡ place tid_of tid es
looked_past es tid k i x e h n other inv =
    let more = ap (place tid_of tid) (nth_first es k i x e h n) ∙ place_more tid_of tid x (drop (i + 1) es) other
    in omega arith

pub looked_up :
    (j : Log) (tid k : ℕ) →
    true ≡ has_entry j tid →
    k ≡ place tid_of tid j.entries → slice_get j.entries k ≡ cond (has_entry j tid) (Some (entry_of j tid)) None
looked_up j tid k there e =
    ap (slice_get j.entries) e ∙
    slice_get-get_or j.entries (place tid_of tid j.entries) no_entry (ltb-true _ _ (sym there)) ∙
    sym (cond-true (has_entry j tid) (Some (entry_of j tid)) None (sym there))
