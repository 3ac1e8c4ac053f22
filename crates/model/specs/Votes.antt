-- The bytes of votes.
use Rattle.std.specs.Prelude.{ℕ, cond, Some, None, Option, ◌==◌}
use Rattle.model.specs.declared.vote.Vote.{Vote}
use Rattle.model.specs.declared.vote.Vote.TheVariants.{Yes, Busy, Forced, Mismatch, Full}

abbrev pub vote_number : Vote → ℕ
vote_number Yes = 0
vote_number Busy = 1
vote_number Forced = 2
vote_number Mismatch = 3
vote_number Full = 4

abbrev pub vote_of : ℕ → Option Vote
vote_of n =
    cond (n == 0) (Some Yes)
    (cond (n == 1) (Some Busy)
    (cond (n == 2) (Some Forced)
    (cond (n == 3) (Some Mismatch)
    (cond (n == 4) (Some Full) None))))
