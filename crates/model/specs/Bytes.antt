-- Parts of lists of bytes, or of whatever else stands at addresses.
use Rattle.std.specs.Prelude.{ℕ, ◌+◌, Bool, cond, List, ◌++◌, length, take, drop, nat_le}

-- whether the range of n from a ends within the list; an empty one does up to the end
abbrev pub within : {X : Type 0} → List X → ℕ → ℕ → Bool
within xs a n = nat_le (a + n) (length xs)

-- the n elements from a
abbrev pub part : {X : Type 0} → List X → ℕ → ℕ → List X
part xs a n = take n (drop a xs)

-- the elements from a replaced by others
abbrev pub splice : {X : Type 0} → List X → ℕ → List X → List X
splice xs a ys = take a xs ++ (ys ++ drop (a + length ys) xs)

-- the same, or nothing where the others do not fit
abbrev pub placed : List ℕ → ℕ → List ℕ → List ℕ
placed xs a ys = cond (within xs a (length ys)) (splice xs a ys) xs
