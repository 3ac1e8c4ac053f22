-- Laws of `laid`: the length, each byte, nothing laid over, and one laid over another.
use Rattle.std.proofs.Common.{◌≡◌, ℕ, zero, suc, ◌+◌, ◌-◌, ◌*◌, ◌/◌, ◌%◌, ◌<◌, ◌≤◌, Bool, true, false, cond, eqb, List, [], ◌∷◌, length, get_or, set, is_some, Some, None, Option, unwrap_or, sym, refl, ap, ◌∙◌, ⊎_elim, arith}
use Rattle.std.proofs.lemmas.List.{ext_get_or, length-set, get_or-set_same, get_or-set_other}
use Rattle.std.proofs.lemmas.Bool.{cases_eq, cases_lt, cond-true, cond-false, eq-eqb, ne_eqb, lt-ltb, le-ltb}
use Rattle.line_buffer.specs.declared.line.Line.{Line}
use Rattle.line_buffer.specs.Lines.{only_at, line_bytes, cell_at, cells_below, laid}

-- nothing is held, whichever way a test goes
pub cond_none : (b : Bool) → cond {A = Option ℕ} b None None ≡ None
cond_none true = refl
cond_none false = refl

pub none_of : (v : Option ℕ) → is_some v ≡ false → v ≡ None
none_of None e = refl
none_of (Some x) e = cc

pub length_laid : (a : ℕ) (h : ℕ → Option ℕ) (xs : List ℕ) → length (laid a h xs) ≡ length xs
unfolding laid
length_laid a h [] = refl
length_laid a h (x ∷ xs) = ap suc (length_laid (suc a) h xs)

pub get_or_laid : (a : ℕ) (h : ℕ → Option ℕ) (xs : List ℕ) (k : ℕ) → k < length xs → get_or (laid a h xs) k 0 ≡ unwrap_or (h (a + k)) (get_or xs k 0)
unfolding laid
get_or_laid a h [] k l = absurd (omega arith)
get_or_laid a h (x ∷ xs) zero l = ap (λ j. unwrap_or (h j) x) (omega arith)
get_or_laid a h (x ∷ xs) (suc k) l =
    let e : suc a + k ≡ a + suc k = omega arith in
    get_or_laid (suc a) h xs k (omega arith) ∙ ap (λ j. unwrap_or (h j) (get_or xs k 0)) e

-- what is laid over depends only on what is held at the addresses of the bytes
pub laid_is : (a : ℕ) (h : ℕ → Option ℕ) (xs ys : List ℕ) → length ys ≡ length xs → ((k : ℕ) → k < length xs → get_or ys k 0 ≡ unwrap_or (h (a + k)) (get_or xs k 0)) → ys ≡ laid a h xs
laid_is a h xs ys e p =
    ext_get_or 0 ys (laid a h xs) (e ∙ sym (length_laid a h xs)) (λ k l. p k (omega arith) ∙ sym (get_or_laid a h xs k (omega arith)))

pub get_or_laid_from : (h : ℕ → Option ℕ) (xs : List ℕ) (k : ℕ) → k < length xs → get_or (laid 0 h xs) k 0 ≡ unwrap_or (h k) (get_or xs k 0)
get_or_laid_from h xs k l = let e : 0 + k ≡ k = omega arith in get_or_laid 0 h xs k l ∙ ap (λ j. unwrap_or (h j) (get_or xs k 0)) e

pub laid_from_is : (h : ℕ → Option ℕ) (xs ys : List ℕ) → length ys ≡ length xs → ((k : ℕ) → k < length xs → get_or ys k 0 ≡ unwrap_or (h k) (get_or xs k 0)) → ys ≡ laid 0 h xs
laid_from_is h xs ys e p = laid_is 0 h xs ys e (λ k l. let z : k ≡ 0 + k = omega arith in p k l ∙ ap (λ j. unwrap_or (h j) (get_or xs k 0)) z)

-- g is laid over f: where g holds nothing, f's byte shows
pub laid_laid : (a : ℕ) (f g h : ℕ → Option ℕ) (xs : List ℕ) → ((k v : ℕ) → unwrap_or (g k) (unwrap_or (f k) v) ≡ unwrap_or (h k) v) → laid a g (laid a f xs) ≡ laid a h xs
laid_laid a f g h xs p =
    laid_is a h xs (laid a g (laid a f xs)) (length_laid a g (laid a f xs) ∙ length_laid a f xs)
    (λ k l. let l' : k < length (laid a f xs) = omega (arith, length_laid a f xs) in
    get_or_laid a g (laid a f xs) k l' ∙ ap (unwrap_or (g (a + k))) (get_or_laid a f xs k l) ∙ p (a + k) (get_or xs k 0))

-- nothing is held
pub laid_nothing : (a : ℕ) (h : ℕ → Option ℕ) (xs : List ℕ) → ((k : ℕ) → h k ≡ None) → xs ≡ laid a h xs
laid_nothing a h xs o = laid_is a h xs xs refl (λ k _. ap (λ v. unwrap_or v (get_or xs k 0)) (sym (o (a + k))))

pub laid_same : (a : ℕ) (f h : ℕ → Option ℕ) (xs : List ℕ) → ((k : ℕ) → f k ≡ h k) → laid a f xs ≡ laid a h xs
laid_same a f h xs e = laid_is a h xs (laid a f xs) (length_laid a f xs) (λ k l. get_or_laid a f xs k l ∙ ap (λ v. unwrap_or v (get_or xs k 0)) (e (a + k)))

-- one byte is held: within the bytes, and outside them
pub laid_one : (a p b : ℕ) (xs : List ℕ) → a ≤ p → p - a < length xs → set xs (p - a) b ≡ laid a (only_at p (Some b)) xs
laid_one a p b xs le lt =
    laid_is a (only_at p (Some b)) xs (set xs (p - a) b) (length-set xs (p - a) b)
    (λ k l. ⊎_elim
    (λ (e : a + k ≡ p).
    let z : k ≡ p - a = omega arith in
    ap (λ j. get_or (set xs (p - a) b) j 0) z ∙ get_or-set_same xs (p - a) b 0 lt
    ∙ sym (ap (λ v. unwrap_or v (get_or xs k 0)) (cond-true _ _ _ (eq-eqb _ _ e))))
    (λ (e : a + k ≡ p → ⊥).
    let z : k ≡ p - a → ⊥ = λ w. e (omega arith) in
    get_or-set_other xs (p - a) k b 0 z ∙ sym (ap (λ v. unwrap_or v (get_or xs k 0)) (cond-false _ _ _ (ne_eqb _ _ e))))
    (cases_eq (a + k) p))

pub laid_one_outside : (a p : ℕ) (v : Option ℕ) (xs : List ℕ) → (a ≤ p → p - a < length xs → ⊥) → xs ≡ laid a (only_at p v) xs
laid_one_outside a p v xs o =
    laid_is a (only_at p v) xs xs refl
    (λ k l. let z : a + k ≡ p → ⊥ = λ w. o (omega arith) (omega arith) in
    sym (ap (λ w. unwrap_or w (get_or xs k 0)) (cond-false _ _ _ (ne_eqb _ _ z))))

pub laid_one_none : (a p : ℕ) (xs : List ℕ) → xs ≡ laid a (only_at p None) xs
laid_one_none a p xs = laid_nothing a _ xs (λ k. cond_none (eqb k p))

-- the cells of a line, one after the other; the address of the cell c is p
pub unwrap_or_cells_more : (l : Line) (c p : ℕ) → c < line_bytes → p ≡ l.number * line_bytes + c → (k v : ℕ) → unwrap_or (cond (eqb k p) (get_or l.cells c None) None) (unwrap_or (cells_below l c k) v) ≡ unwrap_or (cells_below l (c + 1) k) v
unwrap_or_cells_more l c p h at k v =
    ⊎_elim
    (λ (e : k ≡ p).
    let d : k / line_bytes ≡ l.number = omega arith in
    let m : k % line_bytes ≡ c = omega arith in
    let f : cells_below l c k ≡ None = cond-false _ _ _ (le-ltb (k % line_bytes) c (omega arith)) in
    let g : cells_below l (c + 1) k ≡ get_or l.cells c None =
    cond-true _ _ _ (lt-ltb (k % line_bytes) (c + 1) (omega arith)) ∙ cond-true _ _ _ (eq-eqb l.number (k / line_bytes) (sym d)) ∙ ap (λ j. get_or l.cells j None) m in
    ap (λ w. unwrap_or w (unwrap_or (cells_below l c k) v)) (cond-true _ _ _ (eq-eqb _ _ e))
    ∙ ap (λ w. unwrap_or (get_or l.cells c None) (unwrap_or w v)) f ∙ ap (λ w. unwrap_or w v) (sym g))
    (λ (e : k ≡ p → ⊥).
    let same : cells_below l c k ≡ cells_below l (c + 1) k =
    ⊎_elim
    (λ (lt : k % line_bytes < c). cond-true _ _ _ (lt-ltb (k % line_bytes) c lt) ∙ sym (cond-true _ _ _ (lt-ltb (k % line_bytes) (c + 1) (omega arith))))
    (λ (le : c ≤ k % line_bytes).
    cond-false _ _ _ (le-ltb (k % line_bytes) c le)
    ∙ ⊎_elim
    (λ (m : k % line_bytes ≡ c).
    let z : l.number ≡ k / line_bytes → ⊥ = λ w. e (omega arith) in
    sym (cond-true _ _ _ (lt-ltb (k % line_bytes) (c + 1) (omega arith)) ∙ cond-false _ _ _ (ne_eqb _ _ z)))
    (λ (m : k % line_bytes ≡ c → ⊥). sym (cond-false _ _ _ (le-ltb (k % line_bytes) (c + 1) (omega arith))))
    (cases_eq (k % line_bytes) c))
    (cases_lt (k % line_bytes) c) in
    ap (λ w. unwrap_or w (unwrap_or (cells_below l c k) v)) (cond-false _ _ _ (ne_eqb _ _ e)) ∙ ap (λ w. unwrap_or w v) same)
    (cases_eq k p)

pub cells_below_none : (l : Line) (k : ℕ) → cells_below l 0 k ≡ None
cells_below_none l k = cond-false _ _ _ (le-ltb (k % line_bytes) 0 (omega arith))

pub cells_below_all : (l : Line) (c k : ℕ) → line_bytes ≤ c → cells_below l c k ≡ cell_at l k
cells_below_all l c k h = cond-true _ _ _ (lt-ltb (k % line_bytes) c (omega arith))
