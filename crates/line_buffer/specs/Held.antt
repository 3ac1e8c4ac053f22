-- What the held lines of a buffer make of the bytes below, and what a write may do to both.
use Rattle.std.specs.Prelude.{ℕ, ◌+◌, ◌/◌, Bool, List, Option, length, vec_items}
use Rattle.line_buffer.specs.Lines.{line_bytes, numbers, held_at, overlaid, written, missing, touched, safe, WroteBack, Wrote}
use Rattle.line_buffer.specs.declared.lines.HeldLines.{HeldLines}
use Rattle.line_buffer.specs.declared.lines.Piece.{Piece}

-- the bytes xs of the memory below as they show under the held lines
abbrev pub shown : HeldLines → List ℕ → List ℕ
shown h xs = overlaid (vec_items h.lines) xs

-- which bytes are durable, of those that are so below
abbrev pub lasting : HeldLines → (ℕ → Bool) → ℕ → Bool
lasting h d = safe (vec_items h.lines) d

-- how many lines are held after a write of n bytes from a, as long as none goes back
abbrev pub lines_wanted : HeldLines → ℕ → ℕ → ℕ
lines_wanted h a n = length (vec_items h.lines) + missing (numbers (vec_items h.lines)) (a / line_bytes) (touched a n)

-- a whole write of the bytes ys from a, over the bytes xs below
abbrev pub WritesBack : HeldLines → List ℕ → ℕ → List ℕ → HeldLines → List ℕ → Type 0
WritesBack h xs a ys h' xs' = WroteBack (vec_items h.lines) xs a ys (touched a (length ys)) (vec_items h'.lines) xs'

-- the number of the line that a piece of a write lies in
abbrev pub line_of : Piece → ℕ
line_of p = p.at / line_bytes

-- the byte that is held at an address once the piece is
abbrev pub held_with : HeldLines → Piece → ℕ → Option ℕ
held_with h p = written (held_at (vec_items h.lines)) p.at p.bytes.now

-- a write of the piece, with the lines after its own up to last still to be written
abbrev pub WritesPiece : HeldLines → List ℕ → Piece → ℕ → HeldLines → List ℕ → Type 0
WritesPiece h xs p last h' xs' = Wrote (vec_items h.lines) xs p.at p.bytes.now 1 last (vec_items h'.lines) xs'
