-- What a memory is: its bytes, which of them are durable, and what a write, a flush and a restart may do to both.
use Rattle.std.specs.Prelude.{◌≡◌, ℕ, ◌+◌, ◌<◌, ◌≤◌, Bool, true, cond, ◌&&◌, List, [], length, ◌==◌, nat_le, nat_lt, slice_index}
use Rattle.model.specs.Numbers.{most_bytes}
pub use Rattle.model.specs.Bytes.{within, part, splice}

-- the address k lies in the range of n bytes from a
abbrev pub named : ℕ → ℕ → ℕ → Bool
named a n k = nat_le a k && nat_lt k (a + n)

-- what a memory keeps of the bytes that it is given: all, or none of too many
abbrev pub capped : List ℕ → List ℕ
capped xs = cond (nat_le (length xs) most_bytes) xs []

-- what a memory keeps of a half, given the other one: nothing of unequal halves, nor of too many bytes
abbrev pub paired : List ℕ → List ℕ → List ℕ
paired xs ys = cond (length xs == length ys) (capped xs) []

-- every byte is durable
abbrev pub AllDurable : (ℕ → Bool) → Type 0
AllDurable d = (k : ℕ) → d k ≡ true

-- what a write to the range of n bytes from a leaves durable: each byte outside the range that was it;
-- bytes of the range, and volatile ones outside, may be either
pub record Kept (d d' : ℕ → Bool) (a n : ℕ) : Type 0 where
  pub below : (k : ℕ) → k < a → d k ≡ true → d' k ≡ true
  pub above : (k : ℕ) → a + n ≤ k → d k ≡ true → d' k ≡ true

-- what a loss of power leaves: as many bytes, and in each durable one its value; a volatile one may hold anything
pub record Survived (xs : List ℕ) (d : ℕ → Bool) (ys : List ℕ) : Type 0 where
  pub len : length ys ≡ length xs
  pub values : (k : ℕ) → d k ≡ true → slice_index ys k ≡ slice_index xs k
