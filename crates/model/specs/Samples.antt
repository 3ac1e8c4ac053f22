-- A sample cluster to compute with: nodes of 64 zero bytes and journals of capacity 4, and what it answers to lists of calls.
use Rattle.std.specs.Prelude.{Bool, cond, List, [], ◌∷◌, map, replicate, Some, None, Option}
use Rattle.model.specs.declared.outcome.Outcome.{Outcome}
use Rattle.model.specs.Items.{Item}
use Rattle.model.specs.Requests.{encode_request}
use Rattle.model.specs.Answers.{Answer}
use Rattle.model.specs.Journal.{Entry, empty_journal}
use Rattle.model.specs.Writes.{Stores}
use Rattle.model.specs.Node.{Node, Left, cells_of, journal_of}
use Rattle.model.specs.Cluster.{Cluster, node_at}
use Rattle.model.specs.Making.{making}
use Rattle.model.specs.History.{Event, History}
use Rattle.model.specs.Calls.{Call, opens, left_at, step}

abbrev pub sample_stores : Stores
sample_stores = record { cells = replicate 64 0; journal = empty_journal 4 }

abbrev pub two_stores : List Stores
two_stores = sample_stores ∷ sample_stores ∷ []

abbrev pub two_nodes : Cluster
two_nodes = making two_stores

-- an open of these items
abbrev pub asks : List Item → Call
asks is = opens (encode_request is)

abbrev pub durable_outcome : Option Outcome → Option Bool
durable_outcome None = None
durable_outcome (Some o) = cond o.durable (Some o.commits) None

-- what is left by a loss of power that takes every pending outcome and no byte
abbrev pub left_of : Node → Left
left_of n = record { cells = cells_of n; outcomes = map (λ (e : Entry). durable_outcome e.outcome) (journal_of n).entries }

abbrev pub left_by : Cluster → Call → Left
left_by c call = left_at (λ q. left_of (node_at c q)) call

-- the cluster after calls, and their answers, in order
unfoldable pub after : Cluster → List Call → Cluster
after c [] = c
after c (call ∷ calls) = after (step c call (left_by c call)).1 calls

-- the history of these calls, added to events before them
unfoldable pub events_of : Cluster → List Event → List Call → List Event
events_of c es [] = es
events_of c es (call ∷ calls) =
    let r = step c call (left_by c call) in
    events_of r.1 (record { call = call; left = left_by c call; answer = r.0 } ∷ es) calls

abbrev pub history_of : List Stores → List Call → History
history_of made calls = record { beginning = made; events = events_of (making made) [] calls }

unfoldable pub answers : Cluster → List Call → List Answer
answers c [] = []
answers c (call ∷ calls) = let r = step c call (left_by c call) in r.0 ∷ answers r.1 calls
