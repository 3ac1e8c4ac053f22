-- The header of a message, by the places of its fields.
use Rattle.std.specs.Prelude.{ℕ, cond, List, length, Some, None, Option, nat_lt}
use Rattle.model.specs.declared.party.Party.{Party}
use Rattle.model.specs.MessageFormat.{body_at, tid_at, sender_at, receiver_at, number_at, party_at}
use Rattle.messages.specs.declared.message.Header.{Header}

abbrev pub then_header : ℕ → Option Party → Option Party → Option Header
then_header tid None receiver = None
then_header tid (Some s) None = None
then_header tid (Some s) (Some r) = Some (record { tid = tid; sender = s; receiver = r })

abbrev pub header_of : List ℕ → Option Header
header_of bs =
    cond (nat_lt (length bs) body_at) None
    (then_header (number_at bs tid_at) (party_at bs sender_at) (party_at bs receiver_at))
