-- The numbers of refusals.
use Rattle.std.specs.Prelude.{ℕ}
use Rattle.model.specs.declared.refusal.Refusal.{Refusal}
use Rattle.model.specs.declared.refusal.Refusal.TheVariants.{Malformed, Missing, WrongCondition, OutOfRange, NoRoom, NotReady, Exhausted}

abbrev pub refusal_number : Refusal → ℕ
refusal_number Malformed = 1
refusal_number Missing = 2
refusal_number WrongCondition = 3
refusal_number OutOfRange = 4
refusal_number NoRoom = 5
refusal_number NotReady = 6
refusal_number Exhausted = 7
