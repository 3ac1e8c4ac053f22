-- The kinds of messages: their numbers and their names.
use Rattle.std.specs.Prelude.{ℕ, cond, List, Some, None, codes, Option, ◌==◌}
use Rattle.model.specs.Messages.{Body as PlainBody, prepare, voted, finish, inquiry, reply, query, settled}
use Rattle.messages.specs.declared.message.Kind.{Kind}
use Rattle.messages.specs.declared.message.Kind.TheVariants.{Prepare, Vote, Finish, Inquiry, Reply, Query, Settled}

abbrev pub kind_number : Kind → ℕ
kind_number Prepare = 1
kind_number Vote = 2
kind_number Finish = 3
kind_number Inquiry = 4
kind_number Reply = 5
kind_number Query = 6
kind_number Settled = 7

-- the kind that a number stands for
abbrev pub kind_numbered : ℕ → Option Kind
kind_numbered n =
    cond (n == 1) (Some Prepare)
    (cond (n == 2) (Some Vote)
    (cond (n == 3) (Some Finish)
    (cond (n == 4) (Some Inquiry)
    (cond (n == 5) (Some Reply)
    (cond (n == 6) (Some Query) (cond (n == 7) (Some Settled) None))))))

abbrev pub kind_text : Kind → List ℕ
kind_text Prepare = codes "prepare"
kind_text Vote = codes "vote"
kind_text Finish = codes "finish"
kind_text Inquiry = codes "inquiry"
kind_text Reply = codes "reply"
kind_text Query = codes "query"
kind_text Settled = codes "settled"

abbrev pub body_kind : PlainBody → Kind
body_kind (prepare ps is) = Prepare
body_kind (voted v bs) = Vote
body_kind (finish b) = Finish
body_kind inquiry = Inquiry
body_kind (reply b) = Reply
body_kind query = Query
body_kind settled = Settled
