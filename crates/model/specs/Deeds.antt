-- What the past keeps of a call: the items that it opened, the durable writes that it made, or the restart of a node.
use Rattle.std.specs.Prelude.{ℕ, Bool, true, false, cond, List, [], ◌∷◌, ◌++◌, Some, None, Option, ◌==◌}
use Rattle.model.specs.declared.party.Party.{Party}
use Rattle.model.specs.declared.party.Party.TheVariants.{Node as NodeParty, Coordinator as CoordinatorParty, Recovery as RecoveryParty}
use Rattle.model.specs.declared.refusal.Refusal.{Refusal}
use Rattle.model.specs.Items.{Item}
use Rattle.model.specs.Requests.{decode_request}
use Rattle.model.specs.Messages.{Message}
use Rattle.model.specs.Ranges.{covers}
use Rattle.model.specs.Writes.{Write, add_entry, force, note, put, flush_memory, flush_journal, point, drop_oldest, budgeted}
use Rattle.model.specs.Handling.{Effect, Reaction, lost, taken, reaction, resuming, settling, collecting}
use Rattle.model.specs.Cluster.{Cluster, node_at}
use Rattle.model.specs.Calls.{Call, opens, delivers, loses, decides, leaves, recovers, rules, stops, cuts, wakes, inquires, resumes, settles, queries, collects, shows, first_of, open_refusals, place_refusals, message_at, without_message, wake_refusals, resume_refusals, settle_refusals, collect_refusals}

pub data Deed : Type 0 where
  asked : List Item → Deed  -- a minitransaction was opened
  wrote : ℕ → List Write → Deed  -- at a node, these writes were made
  woke : ℕ → Deed  -- a node has power again
  nothing : Deed

abbrev pub unless : Option Refusal → Deed → Deed
unless None d = d
unless (Some r) d = nothing

abbrev pub asked_for : Cluster → Option (List Item) → Deed
asked_for c None = nothing
asked_for c (Some is) = unless (first_of (open_refusals c is)) (asked is)

-- the writes that stand: as many as the budget allows
abbrev pub wrote_by : ℕ → ℕ → Effect → Deed
wrote_by q budget e = wrote q (budgeted budget e.writes)

abbrev pub reacted_with : ℕ → ℕ → Reaction → Deed
reacted_with q budget lost = nothing
reacted_with q budget (taken e) = wrote_by q budget e

abbrev pub received_by : Party → Cluster → Message → ℕ → Deed
received_by (NodeParty q) c m budget = reacted_with q budget (reaction q (node_at c q) m)
received_by CoordinatorParty c m budget = nothing
received_by (RecoveryParty r) c m budget = nothing

abbrev pub deed_of : Cluster → Call → Deed
deed_of c (opens bs) = asked_for c (decode_request bs)
deed_of c (delivers i budget) =
    unless (first_of (place_refusals c i)) (received_by (message_at c i).receiver (without_message c i) (message_at c i) budget)
deed_of c (loses i) = nothing
deed_of c (decides tid buffer) = nothing
deed_of c (leaves tid) = nothing
deed_of c (recovers q tid) = nothing
deed_of c (rules r) = nothing
deed_of c (stops r) = nothing
deed_of c (cuts q) = nothing
deed_of c (wakes q) = unless (first_of (wake_refusals c q)) (woke q)
deed_of c (inquires q tid other) = nothing
deed_of c (resumes q budget) = unless (first_of (resume_refusals c q)) (wrote_by q budget (resuming (node_at c q)))
deed_of c (settles q budget) = unless (first_of (settle_refusals c q)) (wrote_by q budget (settling (node_at c q)))
deed_of c (queries q other) = nothing
deed_of c (collects q budget) = unless (first_of (collect_refusals c q)) (wrote_by q budget (collecting (node_at c q)))
deed_of c (shows q a n) = nothing

-- what a call does to a cluster; nothing to one that was not made well
unfoldable pub deed : Cluster → Call → Deed
deed c call = cond c.well_made (deed_of c call) nothing

-- ## Bytes written since the memory was last flushed or restarted

abbrev pub touched_by : Write → ℕ → Bool → Bool
touched_by (add_entry tid ps ws) k before = before
touched_by (force tid) k before = before
touched_by (note tid b) k before = before
touched_by (put i) k before = cond (covers i k) true before
touched_by flush_memory k before = false
touched_by flush_journal k before = before
touched_by (point n) k before = before
touched_by drop_oldest k before = before

unfoldable pub touched_by_all : List Write → ℕ → Bool → Bool
touched_by_all [] k before = before
touched_by_all (w ∷ ws) k before = touched_by_all ws k (touched_by w k before)

-- whether byte k of node q counts as written after a deed, given whether it did before
abbrev pub touched : Deed → ℕ → ℕ → Bool → Bool
touched (asked is) q k before = before
touched (wrote p ws) q k before = cond (p == q) (touched_by_all ws k before) before
touched (woke p) q k before = cond (p == q) false before
touched nothing q k before = before

-- ## Yes entries

-- a yes entry: a node's for a tid
pub record Yes : Type 0 where
  pub node : ℕ
  pub tid : ℕ

abbrev pub yes_by : ℕ → Write → List Yes → List Yes
yes_by q (add_entry tid ps ws) log = record { node = q; tid = tid } ∷ log
yes_by q (force tid) log = log
yes_by q (note tid b) log = log
yes_by q (put i) log = log
yes_by q flush_memory log = log
yes_by q flush_journal log = log
yes_by q (point n) log = log
yes_by q drop_oldest log = log

-- the log after these writes, newest first
unfoldable pub yes_by_all : ℕ → List Write → List Yes → List Yes
yes_by_all q [] log = log
yes_by_all q (w ∷ ws) log = yes_by_all q ws (yes_by q w log)

abbrev pub yes_after : Deed → List Yes → List Yes
yes_after (asked is) log = log
yes_after (wrote q ws) log = yes_by_all q ws log
yes_after (woke q) log = log
yes_after nothing log = log

-- ## Minitransactions

-- the item lists opened so far, oldest first
abbrev pub asked_after : Deed → List (List Item) → List (List Item)
asked_after (asked is) before = before ++ is ∷ []
asked_after (wrote q ws) before = before
asked_after (woke q) before = before
asked_after nothing before = before
