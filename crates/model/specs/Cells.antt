-- Cells of memory, and what reading, comparing and writing a range of them does.
-- Only `shown`, `matches` and `stored` look inside a cell.
use Rattle.std.specs.Prelude.{ℕ, Bool, cond, ◌&&◌, List, [], length}
use Rattle.std.specs.Str.{bytes_eq}
pub use Rattle.model.specs.Bytes.{within, part, splice}

abbrev pub Cell : Type 0
Cell = ℕ

-- what stands where there is no cell
abbrev pub no_cell : Cell
no_cell = 0

-- the bytes that cells show
abbrev pub shown : List Cell → List ℕ
shown cs = cs

-- whether cells hold the very bytes that a comparison wants
abbrev pub matches : List Cell → List ℕ → Bool
matches cs bs = bytes_eq cs bs

-- the cells that hold written bytes
abbrev pub stored : List ℕ → List Cell
stored bs = bs

-- A range past the end holds nothing: it reads as no bytes, matches nothing, and a write to it alters nothing.
-- (No history gets there: every item that was opened lies within its memory.)

abbrev pub read_at : List Cell → ℕ → ℕ → List ℕ
read_at cs a n = cond (within cs a n) (shown (part cs a n)) []

abbrev pub matches_at : List Cell → ℕ → List ℕ → Bool
matches_at cs a bs = within cs a (length bs) && matches (part cs a (length bs)) bs

abbrev pub written_at : List Cell → ℕ → List ℕ → List Cell
written_at cs a bs = cond (within cs a (length bs)) (splice cs a (stored bs)) cs
