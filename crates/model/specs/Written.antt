-- What a writer answers, and what its buffer then holds.
use Rattle.std.specs.Prelude.{ℕ, Bool, cond, List, ◌++◌, length, drop, Ok, Err, Result, nat_lt}
use Rattle.model.specs.declared.refusal.Refusal.{Refusal}
use Rattle.model.specs.declared.refusal.Refusal.TheVariants.{Malformed, NoRoom}

-- a value without a form is refused first, then a buffer that is too short, each with the buffer as it was;
-- else the bytes stand at the buffer's start, and their number is the answer
abbrev pub written : Bool → List ℕ → List ℕ → Result ℕ Refusal × List ℕ
written has_form bs buffer =
    cond has_form
    (cond (nat_lt (length buffer) (length bs)) (Err NoRoom, buffer) (Ok (length bs), bs ++ drop (length bs) buffer))
    (Err Malformed, buffer)
