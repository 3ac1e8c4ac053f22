-- The whole cluster: its nodes, the messages under way, its coordinators and recoveries, and the numbers given so far.
use Rattle.std.specs.Prelude.{ℕ, ◌+◌, Bool, true, false, cond, List, [], ◌++◌, map, length, get_or, replicate, is_some, Some, None, Option, nat_le, nat_lt, slice_index_or, slice_set}
use Rattle.std.specs.Option.{unwrap_or}
use Rattle.model.specs.declared.party.Party.TheVariants.{Coordinator as CoordinatorParty}
use Rattle.model.specs.declared.vote.Vote.{Vote}
use Rattle.model.specs.declared.vote.Vote.TheVariants.{Yes, Busy, Forced, Mismatch, Full}
use Rattle.model.specs.Numbers.{most_nodes, most_messages}
use Rattle.model.specs.Messages.{Message, settled}
use Rattle.model.specs.Lists.{place, stands, joined_by}
use Rattle.model.specs.Participants.{members, every_member}
use Rattle.model.specs.Node.{Node, no_node}

-- runs one minitransaction; it keeps no log
pub record Coordinator : Type 0 where
  pub tid : ℕ
  pub participants : ℕ
  pub votes : List (Option Vote)  -- by node, the vote that has come
  pub reads : List (List ℕ)  -- by node, the bytes that came with it

-- finishes a minitransaction whose coordinator is gone
pub record Recovery : Type 0 where
  pub number : ℕ
  pub tid : ℕ
  pub participants : ℕ
  pub replies : List (Option Bool)  -- by node, the reply that has come

pub record Cluster : Type 0 where
  pub well_made : Bool  -- otherwise it refuses every call
  pub nodes : List Node
  pub network : List Message  -- oldest first
  pub coordinators : List Coordinator
  pub recoveries : List Recovery
  pub last_tid : ℕ  -- the last tid given
  pub last_recovery : ℕ  -- the number of the last recovery

-- ## Nodes

abbrev pub has_node : Cluster → ℕ → Bool
has_node c q = nat_lt q (length c.nodes)

abbrev pub node_at : Cluster → ℕ → Node
node_at c q = slice_index_or c.nodes q no_node

abbrev pub with_node : Cluster → ℕ → Node → Cluster
with_node c q n =
    record {
      well_made = c.well_made;
      nodes = slice_set c.nodes q n;
      network = c.network;
      coordinators = c.coordinators;
      recoveries = c.recoveries;
      last_tid = c.last_tid;
      last_recovery = c.last_recovery;
    }

-- ## The network

abbrev pub with_network : Cluster → List Message → Cluster
with_network c ms =
    record {
      well_made = c.well_made;
      nodes = c.nodes;
      network = ms;
      coordinators = c.coordinators;
      recoveries = c.recoveries;
      last_tid = c.last_tid;
      last_recovery = c.last_recovery;
    }

abbrev pub sent : Cluster → List Message → Cluster
sent c ms = with_network c (c.network ++ ms)

-- whether so many messages find a free place
abbrev pub has_room : Cluster → ℕ → Bool
has_room c n = nat_le (length c.network + n) most_messages

-- what stands where there is no message
abbrev pub no_message : Message
no_message = record { tid = 0; sender = CoordinatorParty; receiver = CoordinatorParty; body = settled }

-- a message to each participant, in rising order
abbrev pub to_each : ℕ → (ℕ → Message) → List Message
to_each ps m = map m (members ps)

-- ## Coordinators

abbrev pub with_coordinators : Cluster → List Coordinator → Cluster
with_coordinators c ks =
    record {
      well_made = c.well_made;
      nodes = c.nodes;
      network = c.network;
      coordinators = ks;
      recoveries = c.recoveries;
      last_tid = c.last_tid;
      last_recovery = c.last_recovery;
    }

abbrev pub coordinator_tid : Coordinator → ℕ
coordinator_tid k = k.tid

abbrev pub new_coordinator : ℕ → ℕ → Coordinator
new_coordinator tid ps =
    record { tid = tid; participants = ps; votes = replicate most_nodes None; reads = replicate most_nodes [] }

abbrev pub no_coordinator : Coordinator
no_coordinator = new_coordinator 0 0

abbrev pub has_coordinator : Cluster → ℕ → Bool
has_coordinator c tid = stands coordinator_tid tid c.coordinators

abbrev pub coordinator_of : Cluster → ℕ → Coordinator
coordinator_of c tid = slice_index_or c.coordinators (place coordinator_tid tid c.coordinators) no_coordinator

abbrev pub has_voted : Coordinator → ℕ → Bool
has_voted k q = is_some (slice_index_or k.votes q None)

-- the first vote of a node counts (no history brings a second)
abbrev pub with_vote : Coordinator → ℕ → Vote → List ℕ → Coordinator
with_vote k q v bs =
    cond (has_voted k q) k
    (record { tid = k.tid; participants = k.participants; votes = slice_set k.votes q (Some v); reads = slice_set k.reads q bs })

abbrev pub is_yes : Vote → Bool
is_yes Yes = true
is_yes Busy = false
is_yes Forced = false
is_yes Mismatch = false
is_yes Full = false

-- the vote of a node; read only where every participant has voted
abbrev pub vote_from : Coordinator → ℕ → Vote
vote_from k q = unwrap_or (slice_index_or k.votes q None) Busy

abbrev pub all_voted : Coordinator → Bool
all_voted k = every_member (has_voted k) k.participants

-- yes exactly if every vote is
abbrev pub decision : Coordinator → Bool
decision k = every_member (λ q. is_yes (vote_from k q)) k.participants

abbrev pub votes_of : Coordinator → List Vote
votes_of k = map (vote_from k) (members k.participants)

-- the bytes read, by node and item
abbrev pub reads_of : Coordinator → List ℕ
reads_of k = joined_by (λ q. get_or k.reads q []) (members k.participants)

-- ## Recoveries

abbrev pub with_recoveries : Cluster → List Recovery → Cluster
with_recoveries c rs =
    record {
      well_made = c.well_made;
      nodes = c.nodes;
      network = c.network;
      coordinators = c.coordinators;
      recoveries = rs;
      last_tid = c.last_tid;
      last_recovery = c.last_recovery;
    }

abbrev pub recovery_number : Recovery → ℕ
recovery_number r = r.number

abbrev pub new_recovery : ℕ → ℕ → ℕ → Recovery
new_recovery number tid ps =
    record { number = number; tid = tid; participants = ps; replies = replicate most_nodes None }

abbrev pub no_recovery : Recovery
no_recovery = new_recovery 0 0 0

abbrev pub has_recovery : Cluster → ℕ → Bool
has_recovery c r = stands recovery_number r c.recoveries

abbrev pub recovery_of : Cluster → ℕ → Recovery
recovery_of c r = slice_index_or c.recoveries (place recovery_number r c.recoveries) no_recovery

abbrev pub has_replied : Recovery → ℕ → Bool
has_replied r q = is_some (slice_index_or r.replies q None)

-- the first reply of a node counts (no history brings a second)
abbrev pub with_reply : Recovery → ℕ → Bool → Recovery
with_reply r q b =
    cond (has_replied r q) r
    (record { number = r.number; tid = r.tid; participants = r.participants; replies = slice_set r.replies q (Some b) })

abbrev pub all_replied : Recovery → Bool
all_replied r = every_member (has_replied r) r.participants

-- yes exactly if every reply is
abbrev pub ruling : Recovery → Bool
ruling r = every_member (λ q. unwrap_or (slice_index_or r.replies q None) false) r.participants
