-- What items do to a memory, byte by byte: putting, comparing and reading ranges of cells.
use Rattle.std.proofs.Common.{◌≡◌, ℕ, zero, suc, ◌+◌, ◌-◌, ◌<◌, ◌≤◌, Bool, true, false, cond, ◌&&◌, ltb, leb, ◌⊎◌, List, [], ◌∷◌, ◌++◌, length, get_or, take, drop, refl, ap, ◌∙◌, ap₂, inl, inr, add-one, arith}
use Rattle.std.specs.List.{AllByRecursion as All}
use Rattle.std.proofs.lemmas.Bool.{cases_Bool, cases_lt, both_ways, leb-true, lt-ltb, le-leb, le-ltb, lt-leb}
use Rattle.std.proofs.lemmas.List.{get_or_append_left, get_or-append_right, get_or-take, get_or-drop, length-take-le, length-append, length-drop, drop_more}
use Rattle.model.specs.Items.{Item, compare, read, write}
use Rattle.model.specs.ItemFormat.{span}
use Rattle.model.specs.Lists.{every, joined_by}
use Rattle.model.specs.Cells.{Cell, no_cell, shown, matches, stored, within, part, splice, written_at}
use Rattle.model.specs.Ranges.{address_of, is_write, covers, holds, all_hold, read_item, read_items, put_item}
use Rattle.model.proofs.core.Lists.{all_map}
use Rattle.model.proofs.core.State.{Effect, keep, put, applied, puts}
use Rattle.model.proofs.bridge.Tests.{every_alike}

-- the byte at an address; past the end there is none
abbrev pub cell_at : List Cell → ℕ → Cell
cell_at cs b = get_or cs b no_cell

-- the item lies within a memory of so many cells
abbrev pub Fits : ℕ → Item → Type 0
Fits m i = address_of i + span i ≤ m

-- ## Putting

-- what an item does to a byte
abbrev pub item_effect : Item → ℕ → Effect Cell
item_effect (compare q a bs) b = keep
item_effect (read q a n) b = keep
item_effect (write q a bs) b = cond (leb a b && ltb b (a + length bs)) (put (get_or (stored bs) (b - a) no_cell)) keep

splice_cell : (m : List Cell) (a : ℕ) (d : List Cell) (b : ℕ) → a + length d ≤ length m
    → cell_at (splice m a d) b ≡ cond (leb a b && ltb b (a + length d)) (cell_at d (b - a)) (cell_at m b)
splice_cell m a d b l = go (cases_lt b a) (cases_lt b (a + length d))
  where
    la : length (take a m) ≡ a
    la = length-take-le a m (omega arith)

    go : ((b < a) ⊎ (a ≤ b)) → ((b < a + length d) ⊎ (a + length d ≤ b)) → cell_at (splice m a d) b ≡ cond (leb a b && ltb b (a + length d)) (cell_at d (b - a)) (cell_at m b)
    go (inl h) k =
        rw (lt-leb a b h, get_or_append_left (take a m) (d ++ drop (a + length d) m) no_cell b (omega (arith, la))) (get_or-take a m b no_cell h)
    go (inr h) (inl k) =
        rw (le-leb a b h, lt-ltb b (a + length d) k, get_or-append_right (take a m) (d ++ drop (a + length d) m) a b no_cell la h)
        (get_or_append_left d (drop (a + length d) m) no_cell (b - a) (omega arith))
    go (inr h) (inr k) =
        let e : a + length d + (b - a - length d) ≡ b = omega arith in
        rw (
          le-leb a b h,
          le-ltb b (a + length d) k,
          get_or-append_right (take a m) (d ++ drop (a + length d) m) a b no_cell la h,
          get_or-append_right d (drop (a + length d) m) (length d) (b - a) no_cell refl (omega arith),
          get_or-drop (a + length d) m (b - a - length d) no_cell,
          e,
        ) refl

within_fits : (cs : List Cell) (a n : ℕ) → a + n ≤ length cs → within cs a n ≡ true
within_fits cs a n h = le-leb (a + n) (length cs) h

pub put_cell : (cs : List Cell) (i : Item) → Fits (length cs) i → (b : ℕ) → cell_at (put_item cs i) b ≡ applied (item_effect i b) (cell_at cs b)
put_cell cs (compare q a bs) h b = refl
put_cell cs (read q a n) h b = refl
put_cell cs (write q a bs) h b = rw (within_fits cs a (length bs) h) (splice_cell cs a (stored bs) b h ∙ go (leb a b && ltb b (a + length bs)))
  where
    go : (c : Bool) → cond c (cell_at (stored bs) (b - a)) (cell_at cs b) ≡ applied (cond c (put (get_or (stored bs) (b - a) no_cell)) keep) (cell_at cs b)
    go true = refl
    go false = refl

pub length_put : (cs : List Cell) (i : Item) → length (put_item cs i) ≡ length cs
length_put cs (compare q a bs) = refl
length_put cs (read q a n) = refl
length_put cs (write q a bs) = go (cases_Bool (within cs a (length bs)))
  where
    go : ((within cs a (length bs) ≡ true) ⊎ (within cs a (length bs) ≡ false)) → length (written_at cs a bs) ≡ length cs
    go (inl e) =
        let l = leb-true (a + length bs) (length cs) e in
        rw e (omega (arith, length-append (take a cs) (stored bs ++ drop (a + length bs) cs), length-append (stored bs) (drop (a + length bs) cs), length-take-le a cs (omega arith), length-drop (a + length bs) cs))
    go (inr e) = rw e refl

-- a byte that an item puts is one that it covers
pub puts_covers : (i : Item) (b : ℕ) → puts (item_effect i b) ≡ true → (is_write i ≡ true) × (covers i b ≡ true)
puts_covers (compare q a bs) b h = absurd (both_ways false refl h)
puts_covers (read q a n) b h = absurd (both_ways false refl h)
puts_covers (write q a bs) b h = (refl, go (leb a b && ltb b (a + length bs)) h)
  where
    go : (c : Bool) → puts (cond c (put (get_or (stored bs) (b - a) no_cell)) keep) ≡ true → c ≡ true
    go true h = refl
    go false h = h

pub covers_puts : (i : Item) (b : ℕ) → is_write i ≡ true → puts (item_effect i b) ≡ covers i b
covers_puts (compare q a bs) b h = absurd (both_ways false refl h)
covers_puts (read q a n) b h = absurd (both_ways false refl h)
covers_puts (write q a bs) b h = go (leb a b && ltb b (a + length bs))
  where
    go : (c : Bool) → puts (cond c (put (get_or (stored bs) (b - a) no_cell)) keep) ≡ c
    go true = refl
    go false = refl

-- ## Windows of a memory

unfoldable pub window : (ℕ → Cell) → ℕ → ℕ → List Cell
window m a zero = []
window m a (suc n) = m a ∷ window m (suc a) n

pub part_window : (cs : List Cell) (a n : ℕ) → a + n ≤ length cs → part cs a n ≡ window (cell_at cs) a n
unfolding window
part_window cs a zero h = refl
part_window cs a (suc n) h =
    ap (take (suc n)) (drop_more cs a no_cell (omega arith)) ∙ ap (λ xs. cell_at cs a ∷ xs) (ap (λ k. take n (drop k cs)) (add-one a) ∙ part_window cs (suc a) n (omega arith))

pub window_same : (m m' : ℕ → Cell) (a n : ℕ) → ((b : ℕ) → a ≤ b → b < a + n → m b ≡ m' b) → window m a n ≡ window m' a n
unfolding window
window_same m m' a zero h = refl
window_same m m' a (suc n) h = ap₂ (λ x xs. x ∷ xs) (h a (omega arith) (omega arith)) (window_same m m' (suc a) n (λ b l k. h b (omega arith) (omega arith)))

-- ## Comparing and reading

-- whether an item's comparison is true of a memory
abbrev pub holds_of : (ℕ → Cell) → Item → Bool
holds_of m (compare q a bs) = matches (window m a (length bs)) bs
holds_of m (read q a n) = true
holds_of m (write q a bs) = true

pub holds_cells : (cs : List Cell) (i : Item) → Fits (length cs) i → holds cs i ≡ holds_of (cell_at cs) i
holds_cells cs (compare q a bs) h = rw (within_fits cs a (length bs) h, part_window cs a (length bs) h) refl
holds_cells cs (read q a n) h = refl
holds_cells cs (write q a bs) h = refl

pub all_hold_cells : (cs : List Cell) (is : List Item) → All (Fits (length cs)) is → all_hold cs is ≡ every (holds_of (cell_at cs)) is
all_hold_cells cs is h = every_alike (holds cs) (holds_of (cell_at cs)) is (all_map (Fits (length cs)) (λ i. holds cs i ≡ holds_of (cell_at cs) i) (holds_cells cs) is h)

abbrev pub read_of : (ℕ → Cell) → Item → List ℕ
read_of m (compare q a bs) = []
read_of m (read q a n) = shown (window m a n)
read_of m (write q a bs) = []

-- the bytes that items read in a memory, in item order
abbrev pub items_read : (ℕ → Cell) → List Item → List ℕ
items_read m is = joined_by (read_of m) is

pub read_cells : (cs : List Cell) (i : Item) → Fits (length cs) i → read_item cs i ≡ read_of (cell_at cs) i
read_cells cs (compare q a bs) h = refl
read_cells cs (read q a n) h = rw (within_fits cs a n h, part_window cs a n h) refl
read_cells cs (write q a bs) h = refl

pub joined_by_alike : {X Y : Type 0} (f g : X → List Y) (xs : List X) → All (λ x. f x ≡ g x) xs → joined_by f xs ≡ joined_by g xs
unfolding joined_by
joined_by_alike f g [] h = refl
joined_by_alike f g (x ∷ xs) h = ap₂ (λ a b. a ++ b) h.0 (joined_by_alike f g xs h.1)

pub reads_cells : (cs : List Cell) (is : List Item) → All (Fits (length cs)) is → read_items cs is ≡ items_read (cell_at cs) is
reads_cells cs is h = joined_by_alike (read_item cs) (read_of (cell_at cs)) is (all_map (Fits (length cs)) (λ i. read_item cs i ≡ read_of (cell_at cs) i) (read_cells cs) is h)

-- ## Only what is covered matters

in_range : (a n b : ℕ) → a ≤ b → b < a + n → (leb a b && ltb b (a + n)) ≡ true
in_range a n b h k = rw (le-leb a b h, lt-ltb b (a + n) k) refl

-- two memories that agree on what an item, not a write, covers
abbrev pub Alike : (ℕ → Cell) → (ℕ → Cell) → Item → Type 0
Alike m m' i = (b : ℕ) → is_write i ≡ false → covers i b ≡ true → m b ≡ m' b

pub holds_alike : (m m' : ℕ → Cell) (i : Item) → Alike m m' i → holds_of m i ≡ holds_of m' i
holds_alike m m' (compare q a bs) h = ap (λ w. matches w bs) (window_same m m' a (length bs) (λ b l k. h b refl (in_range a (length bs) b l k)))
holds_alike m m' (read q a n) h = refl
holds_alike m m' (write q a bs) h = refl

read_alike : (m m' : ℕ → Cell) (i : Item) → Alike m m' i → read_of m i ≡ read_of m' i
read_alike m m' (compare q a bs) h = refl
read_alike m m' (read q a n) h = ap shown (window_same m m' a n (λ b l k. h b refl (in_range a n b l k)))
read_alike m m' (write q a bs) h = refl

pub reads_alike : (m m' : ℕ → Cell) (is : List Item) → All (Alike m m') is → items_read m is ≡ items_read m' is
reads_alike m m' is h = joined_by_alike (read_of m) (read_of m') is (all_map (Alike m m') (λ i. read_of m i ≡ read_of m' i) (read_alike m m') is h)
