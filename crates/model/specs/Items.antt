-- Items: what a minitransaction asks of a memory node, as plain values.
use Rattle.std.specs.Prelude.{ℕ, List}

pub data Item : Type 0 where
  compare : ℕ → ℕ → List ℕ → Item  -- node, address, the bytes that have to be there
  read : ℕ → ℕ → ℕ → Item  -- node, address, length
  write : ℕ → ℕ → List ℕ → Item  -- node, address, the bytes to put there
