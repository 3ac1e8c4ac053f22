-- What the values of the code stand for.
use Rattle.std.specs.Prelude.{Ok, Err, Result}
use Rattle.model.specs.declared.refusal.Refusal.{Refusal}
use Rattle.model.specs.Messages.{Body as PlainBody, Message as PlainMessage, prepare, voted, finish, inquiry, reply, query, settled}
use Rattle.records.specs.Cursor.{items_meaning}
use Rattle.messages.specs.declared.message.Body.{Body}
use Rattle.messages.specs.declared.message.Body.TheVariants.{Prepare, Vote, Finish, Inquiry, Reply, Query, Settled}
use Rattle.messages.specs.declared.message.Message.{Message}

abbrev pub body_meaning : Body → PlainBody
body_meaning (Prepare ps is) = prepare ps (items_meaning is)
body_meaning (Vote v bs) = voted v bs.now
body_meaning (Finish b) = finish b
body_meaning Inquiry = inquiry
body_meaning (Reply b) = reply b
body_meaning Query = query
body_meaning Settled = settled

abbrev pub body_read_meaning : Result Body Refusal → Result PlainBody Refusal
body_read_meaning (Ok b) = Ok (body_meaning b)
body_read_meaning (Err e) = Err e

abbrev pub message_meaning : Message → PlainMessage
message_meaning m =
    record { tid = m.header.tid; sender = m.header.sender; receiver = m.header.receiver; body = body_meaning m.body }

abbrev pub read_meaning : Result Message Refusal → Result PlainMessage Refusal
read_meaning (Ok m) = Ok (message_meaning m)
read_meaning (Err e) = Err e
