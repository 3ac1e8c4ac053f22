-- Where the two halves of a shadow memory agree.
use Rattle.std.specs.Prelude.{ℕ, Bool, List, ◌==◌, slice_index}

abbrev pub agree : List ℕ → List ℕ → ℕ → Bool
agree xs ys k = slice_index xs k == slice_index ys k
