-- What a call answers: one definition gives each case its number, one its values.
use Rattle.std.specs.Prelude.{ℕ, Bool, cond, List, [], ◌∷◌, ◌++◌, map}
use Rattle.model.specs.declared.refusal.Refusal.{Refusal}
use Rattle.model.specs.declared.vote.Vote.{Vote}
use Rattle.model.specs.Refusals.{refusal_number}
use Rattle.model.specs.Votes.{vote_number}

pub data Answer : Type 0 where
  done : Answer
  opened : ℕ → Answer  -- the tid
  delivered : Bool → Answer  -- whether the message was taken, and not lost
  decided : Bool → List Vote → List ℕ → Answer  -- the decision, the votes by rising node, the bytes read
  recovering : ℕ → Answer  -- the recovery's number
  shown : List ℕ → Answer
  refused : Refusal → Answer
  power_failed : Answer  -- the write budget was spent: no refusal, what was written stands

abbrev pub answer_number : Answer → ℕ
answer_number done = 0
answer_number (opened n) = 0
answer_number (delivered b) = 0
answer_number (decided b vs bs) = 0
answer_number (recovering n) = 0
answer_number (shown bs) = 0
answer_number (refused r) = refusal_number r
answer_number power_failed = 8

-- a value of an answer: a number, or bytes
pub data Value : Type 0 where
  number : ℕ → Value
  bytes : List ℕ → Value

abbrev pub truth : Bool → Value
truth b = number (cond b 1 0)

abbrev pub answer_values : Answer → List Value
answer_values done = []
answer_values (opened n) = number n ∷ []
answer_values (delivered b) = truth b ∷ []
answer_values (decided b vs bs) = (truth b ∷ map (λ v. number (vote_number v)) vs) ++ cond b (bytes bs ∷ []) []
answer_values (recovering n) = number n ∷ []
answer_values (shown bs) = bytes bs ∷ []
answer_values (refused r) = []
answer_values power_failed = []
