-- What the answers of a node stand for.
use Rattle.std.specs.Prelude.{List, [], ◌∷◌, Some, None, Option}
use Rattle.model.specs.declared.party.Party.TheVariants.{Node as NodeParty}
use Rattle.model.specs.Messages.{Body as PlainBody, Message as PlainMessage, voted, reply, settled}
use Rattle.nodes.specs.declared.response.Content.{Content}
use Rattle.nodes.specs.declared.response.Content.TheVariants.{Vote, Reply, Settled}
use Rattle.nodes.specs.declared.response.Response.{Response}
use Rattle.nodes.specs.Reading.{read_bytes}

abbrev pub content_meaning : Content → PlainBody
content_meaning (Vote v r) = voted v (read_bytes r)
content_meaning (Reply b) = reply b
content_meaning Settled = settled

abbrev pub response_meaning : Response → PlainMessage
response_meaning r =
    record { tid = r.tid; sender = NodeParty r.sender; receiver = r.receiver; body = content_meaning r.content }

-- the messages to send
abbrev pub sent_meaning : Option Response → List PlainMessage
sent_meaning None = []
sent_meaning (Some r) = response_meaning r ∷ []
