-- What a memory answers to a call for a range of its bytes.
use Rattle.std.specs.Prelude.{ℕ, Bool, cond, List, Ok, Err, Result}
use Rattle.model.specs.declared.refusal.Refusal.{Refusal}
use Rattle.model.specs.declared.refusal.Refusal.TheVariants.{OutOfRange}
use Rattle.model.specs.Memory.{within}

-- done where the range fits, else refused
abbrev pub answer_of : Bool → Result Unit Refusal
answer_of fits = cond fits (Ok tt) (Err OutOfRange)

-- the range of n bytes from a, among the bytes xs
abbrev pub answer_within : List ℕ → ℕ → ℕ → Result Unit Refusal
answer_within xs a n = answer_of (within xs a n)
