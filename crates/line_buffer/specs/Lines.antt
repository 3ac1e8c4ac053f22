-- Held lines: which byte they hold at an address, and what a write, and the lines that it sends back, make of them.
use Rattle.std.specs.Prelude.{◌≡◌, ℕ, zero, suc, ◌+◌, ◌-◌, ◌/◌, ◌%◌, ◌<◌, ◌≤◌, Bool, true, false, cond, not, ◌&&◌, ◌||◌, List, [], ◌∷◌, ◌++◌, map, length, is_some, Some, None, Option, ◌==◌, nat_lt, slice_index, slice_index_or}
use Rattle.std.specs.Option.{unwrap_or}
use Rattle.model.specs.Memory.{named}
use Rattle.line_buffer.specs.declared.line.Line.{Line}

-- bytes of a line, and lines that a buffer holds
abbrev pub line_bytes : ℕ
line_bytes = 16

abbrev pub most_lines : ℕ
most_lines = 8

abbrev pub line_number : Line → ℕ
line_number l = l.number

abbrev pub numbers : List Line → List ℕ
numbers ls = map line_number ls

unfoldable pub member : ℕ → List ℕ → Bool
member n [] = false
member n (m ∷ ms) = n == m || member n ms

-- no number stands twice
unfoldable pub apart : List ℕ → Bool
apart [] = true
apart (m ∷ ms) = not (member m ms) && apart ms

-- the numbers once the line q is held
abbrev pub numbers_with : List ℕ → ℕ → List ℕ
numbers_with ns q = cond (member q ns) ns (ns ++ q ∷ [])

-- what is held where all that is held is v, at the address p
abbrev pub only_at : ℕ → Option ℕ → ℕ → Option ℕ
only_at p v k = cond (k == p) v None

-- the written byte that one line holds at an address
abbrev pub cell_at : Line → ℕ → Option ℕ
cell_at l k = cond (l.number == k / line_bytes) (slice_index_or l.cells (k % line_bytes) None) None

-- the same of the first c bytes of the line alone
abbrev pub cells_below : Line → ℕ → ℕ → Option ℕ
cells_below l c k = cond (nat_lt (k % line_bytes) c) (cell_at l k) None

-- the written byte that is held at an address
unfoldable pub held_at : List Line → ℕ → Option ℕ
held_at [] k = None
held_at (l ∷ ls) k = cond (l.number == k / line_bytes) (slice_index_or l.cells (k % line_bytes) None) (held_at ls k)

-- the bytes xs, which begin at the address a, with what h holds laid over them
unfoldable pub laid : ℕ → (ℕ → Option ℕ) → List ℕ → List ℕ
laid a h [] = []
laid a h (x ∷ xs) = unwrap_or (h a) x ∷ laid (suc a) h xs

-- the bytes xs of the memory below as they show under the held lines
abbrev pub overlaid : List Line → List ℕ → List ℕ
overlaid ls xs = laid 0 (held_at ls) xs

-- what is held once the bytes ys are written from the address a, as long as no line goes back
abbrev pub written : (ℕ → Option ℕ) → ℕ → List ℕ → ℕ → Option ℕ
written h a ys k = cond (named a (length ys) k) (Some (slice_index ys (k - a))) (h k)

-- how many lines the range of n bytes from a touches
abbrev pub touched : ℕ → ℕ → ℕ
touched a n = cond (n == 0) 0 ((a + n + 15) / line_bytes - a / line_bytes)

-- how many of the m lines from q on are not among ns
unfoldable pub missing : List ℕ → ℕ → ℕ → ℕ
missing ns q zero = 0
missing ns q (suc m) = missing ns q m + cond (member (q + m) ns) 0 1

-- the line q is held, or there is room for it
abbrev pub takes : List ℕ → ℕ → Bool
takes ns q = member q ns || nat_lt (length ns) most_lines

-- a byte is durable unless it is written and held, or volatile below
abbrev pub safe : List Line → (ℕ → Bool) → ℕ → Bool
safe ls d k = not (is_some (held_at ls k)) && d k

-- what stays durable where h says which bytes are written: each byte that is not
abbrev pub KeptBut : (ℕ → Option ℕ) → (ℕ → Bool) → (ℕ → Bool) → Type 0
KeptBut h d d' = (k : ℕ) → h k ≡ None → d k ≡ true → d' k ≡ true

-- What a write of the bytes ys from a, which touches m lines, may make of the lines ls over the bytes xs.
-- Which lines go back is free. A line that goes back goes whole, and of it only the bytes that were written, now or
-- before; and no more go back than are wanted: a line goes back only while eight others are held.
pub record WroteBack (ls : List Line) (xs : List ℕ) (a : ℕ) (ys : List ℕ) (m : ℕ) (ls' : List Line) (xs' : List ℕ) : Type 0 where
  pub gone : List ℕ
  pub held : (k : ℕ) → held_at ls' k ≡ cond (member (k / line_bytes) gone) None (written (held_at ls) a ys k)
  pub below : xs' ≡ laid 0 (λ k. cond (member (k / line_bytes) gone) (written (held_at ls) a ys k) None) xs
  pub count : length ls' + length gone ≡ length ls + missing (numbers ls) (a / line_bytes) m
  pub full : 0 < length gone → length ls' ≡ most_lines

-- The lines from q to last, which are still to be written, are held exactly if they were before, and none of them goes back.
pub record Ahead (ls : List Line) (gone : List ℕ) (q last : ℕ) (ls' : List Line) : Type 0 where
  pub stays : (j : ℕ) → q ≤ j → j ≤ last → member j (numbers ls') ≡ member j (numbers ls)
  pub away : (j : ℕ) → q ≤ j → j ≤ last → member j gone ≡ false

-- The lines that the write touches first, m of them, are written; the others up to last are still to be written.
abbrev pub Wrote : List Line → List ℕ → ℕ → List ℕ → ℕ → ℕ → List Line → List ℕ → Type 0
Wrote ls xs a ys m last ls' xs' = (w : WroteBack ls xs a ys m ls' xs') × Ahead ls w.gone (a / line_bytes + m) last ls'
