-- Where a line ends.
use Rattle.std.specs.Prelude.{ℕ, ◌-◌, cond, ◌&&◌, List, length, take, ◌==◌, nat_lt, slice_index}

-- the bytes without a certain one at their end, where it stands there
abbrev pub without : List ℕ → ℕ → List ℕ
without bs last =
    cond (nat_lt 0 (length bs) && slice_index bs (length bs - 1) == last) (take (length bs - 1) bs) bs
