-- The sixteen calls: for each its refusals in the order in which they are tried, what it does, and its answer.
use Rattle.std.specs.Prelude.{ℕ, ◌+◌, Bool, true, false, cond, not, ◌&&◌, ◌||◌, List, [], ◌∷◌, ◌++◌, length, set, Some, None, Option, ◌==◌, nat_le, nat_lt, slice_index_or, slice_set}
use Rattle.std.specs.List.{remove}
use Rattle.model.specs.declared.party.Party.{Party}
use Rattle.model.specs.declared.party.Party.TheVariants.{Node as NodeParty, Coordinator as CoordinatorParty, Recovery as RecoveryParty}
use Rattle.model.specs.declared.refusal.Refusal.{Refusal}
use Rattle.model.specs.declared.refusal.Refusal.TheVariants.{Malformed, Missing, WrongCondition, OutOfRange, NoRoom, NotReady, Exhausted}
use Rattle.model.specs.Numbers.{most_coordinators, most_recoveries, last_number, longest_item}
use Rattle.model.specs.Items.{Item}
use Rattle.model.specs.ItemFormat.{span}
use Rattle.model.specs.Requests.{decode_request}
use Rattle.model.specs.Messages.{Body, Message, prepare, voted, finish, inquiry, reply, query, settled}
use Rattle.model.specs.Answers.{Answer, done, opened, delivered, decided, recovering, shown, refused, power_failed}
use Rattle.model.specs.Lists.{place, some}
use Rattle.model.specs.Cells.{within, read_at}
use Rattle.model.specs.Ranges.{node_of, address_of, items_at}
use Rattle.model.specs.Participants.{includes, members, every_member, participants_of}
use Rattle.model.specs.Journal.{is_empty, oldest, past, says}
use Rattle.model.specs.Writes.{fails}
use Rattle.model.specs.Node.{Node, Left, none_left, cells_of, journal_of, is_up, is_down, is_recovering, powerless, is_in_doubt, doubt_of, is_unresolved, unresolved_of, some_unresolved, recovering as restarting}
use Rattle.model.specs.Handling.{Effect, Reaction, lost, taken, carried_out, reaction, resuming, settling, collecting}
use Rattle.model.specs.Cluster.{Cluster, Coordinator, Recovery, has_node, node_at, with_node, with_network, sent, has_room, no_message, to_each, with_coordinators, coordinator_tid, new_coordinator, has_coordinator, coordinator_of, with_vote, all_voted, decision, votes_of, reads_of, with_recoveries, recovery_number, new_recovery, has_recovery, recovery_of, with_reply, all_replied, ruling}

-- each call with its arguments
pub data Call : Type 0 where
  opens : List ℕ → Call  -- the bytes of a request
  delivers : ℕ → ℕ → Call  -- a place in the network, a write budget
  loses : ℕ → Call  -- a place in the network
  decides : ℕ → ℕ → Call  -- a tid, the length of the buffer
  leaves : ℕ → Call  -- a tid
  recovers : ℕ → ℕ → Call  -- a node, a tid
  rules : ℕ → Call  -- a recovery
  stops : ℕ → Call  -- a recovery
  cuts : ℕ → Call  -- a node
  wakes : ℕ → Call  -- a node
  inquires : ℕ → ℕ → ℕ → Call  -- a node, a tid, the node to ask
  resumes : ℕ → ℕ → Call  -- a node, a write budget
  settles : ℕ → ℕ → Call  -- a node, a write budget
  queries : ℕ → ℕ → Call  -- a node, the node to ask
  collects : ℕ → ℕ → Call  -- a node, a write budget
  shows : ℕ → ℕ → ℕ → Call  -- a node, an address, a length

-- what a call may be given of a loss of power: that of its node at a wake, nothing elsewhere
abbrev pub left_at : (ℕ → Left) → Call → Left
left_at f (opens bs) = none_left
left_at f (delivers i budget) = none_left
left_at f (loses i) = none_left
left_at f (decides tid buffer) = none_left
left_at f (leaves tid) = none_left
left_at f (recovers q tid) = none_left
left_at f (rules r) = none_left
left_at f (stops r) = none_left
left_at f (cuts q) = none_left
left_at f (wakes q) = f q
left_at f (inquires q tid other) = none_left
left_at f (resumes q budget) = none_left
left_at f (settles q budget) = none_left
left_at f (queries q other) = none_left
left_at f (collects q budget) = none_left
left_at f (shows q a n) = none_left

-- ## Refusals

-- the first refusal whose condition holds
abbrev pub first_of : List (Bool × Refusal) → Option Refusal
first_of [] = None
first_of ((holds, r) ∷ rs) = cond holds (Some r) (first_of rs)

abbrev pub Result : Type 0
Result = Answer × Cluster

-- a refused call carries its number only and alters nothing
abbrev pub answered : Option Refusal → Cluster → Result → Result
answered None c accepted = accepted
answered (Some r) c accepted = (refused r, c)

-- ## Write budgets

-- A node carries an effect out. When power fails on the way nothing is sent and the answer is 8 alone.
unfoldable pub carried : Cluster → ℕ → ℕ → Effect → Answer → Result
carried c q budget e a =
    let d = with_node c q (carried_out budget e (node_at c q)) in
    cond (fails budget) (power_failed, d) (a, sent d e.sent)

-- ## Tests on the nodes that a call names

abbrev pub is_up_at : Cluster → ℕ → Bool
is_up_at c q = is_up (node_at c q).volatile.condition

abbrev pub is_down_at : Cluster → ℕ → Bool
is_down_at c q = is_down (node_at c q).volatile.condition

abbrev pub is_recovering_at : Cluster → ℕ → Bool
is_recovering_at c q = is_recovering (node_at c q).volatile.condition

-- whether a node is a participant beside node q
abbrev pub is_other : Cluster → ℕ → ℕ → ℕ → Bool
is_other c q ps other = has_node c other && not (other == q) && includes ps other

-- ## open

abbrev pub open_refusals : Cluster → List Item → List (Bool × Refusal)
open_refusals c is =
    (some (λ i. not (has_node c (node_of i))) is, Missing)
    ∷ (some (λ i. not (within (cells_of (node_at c (node_of i))) (address_of i) (span i))) is, OutOfRange)
    ∷ (not (has_room c (length (members (participants_of is)))) || nat_le most_coordinators (length c.coordinators), NoRoom)
    ∷ (nat_le last_number c.last_tid, Exhausted)
    ∷ []

abbrev pub prepare_to : ℕ → List Item → ℕ → Message
prepare_to tid is q =
    record { tid = tid; sender = CoordinatorParty; receiver = NodeParty q; body = prepare (participants_of is) (items_at q is) }

abbrev pub opening : Cluster → List Item → Result
opening c is =
    let tid = c.last_tid + 1 in (
      opened tid,
      record {
        well_made = c.well_made;
        nodes = c.nodes;
        network = c.network ++ to_each (participants_of is) (prepare_to tid is);
        coordinators = c.coordinators ++ new_coordinator tid (participants_of is) ∷ [];
        recoveries = c.recoveries;
        last_tid = tid;
        last_recovery = c.last_recovery;
      },
    )

-- by what the bytes of the request say
unfoldable pub open_items : Cluster → Option (List Item) → Result
open_items c None = (refused Malformed, c)
open_items c (Some is) = answered (first_of (open_refusals c is)) c (opening c is)

-- ## deliver and lose

abbrev pub place_refusals : Cluster → ℕ → List (Bool × Refusal)
place_refusals c i = (nat_le (length c.network) i, Missing) ∷ []

abbrev pub message_at : Cluster → ℕ → Message
message_at c i = slice_index_or c.network i no_message

abbrev pub without_message : Cluster → ℕ → Cluster
without_message c i = with_network c (remove c.network i)

-- a coordinator notes a vote; anything else has no effect on it
abbrev pub coordinator_hears : Coordinator → Party → Body → Coordinator
coordinator_hears k (NodeParty q) (prepare ps is) = k
coordinator_hears k (NodeParty q) (voted v bs) = with_vote k q v bs
coordinator_hears k (NodeParty q) (finish b) = k
coordinator_hears k (NodeParty q) inquiry = k
coordinator_hears k (NodeParty q) (reply b) = k
coordinator_hears k (NodeParty q) query = k
coordinator_hears k (NodeParty q) settled = k
coordinator_hears k CoordinatorParty b = k
coordinator_hears k (RecoveryParty r) b = k

-- a recovery notes a reply; anything else has no effect on it
abbrev pub recovery_hears : Recovery → Party → Body → Recovery
recovery_hears r (NodeParty q) (prepare ps is) = r
recovery_hears r (NodeParty q) (voted v bs) = r
recovery_hears r (NodeParty q) (finish b) = r
recovery_hears r (NodeParty q) inquiry = r
recovery_hears r (NodeParty q) (reply b) = with_reply r q b
recovery_hears r (NodeParty q) query = r
recovery_hears r (NodeParty q) settled = r
recovery_hears r CoordinatorParty b = r
recovery_hears r (RecoveryParty s) b = r

-- a budget counts only for a message that a node takes
abbrev pub reacted : Cluster → ℕ → ℕ → Reaction → Result
reacted c q budget lost = (delivered false, c)
reacted c q budget (taken e) = carried c q budget e (delivered true)

-- the message has left the network
abbrev pub delivered_to : Party → Cluster → Message → ℕ → Result
delivered_to (NodeParty q) c m budget = reacted c q budget (reaction q (node_at c q) m)
delivered_to CoordinatorParty c m budget =
    cond (has_coordinator c m.tid) (
      delivered true,
      with_coordinators c
          (set c.coordinators (place coordinator_tid m.tid c.coordinators)
          (coordinator_hears (coordinator_of c m.tid) m.sender m.body)),
    )
    (delivered false, c)
delivered_to (RecoveryParty r) c m budget =
    cond (has_recovery c r) (
      delivered true,
      with_recoveries c
          (slice_set c.recoveries (place recovery_number r c.recoveries) (recovery_hears (recovery_of c r) m.sender m.body)),
    )
    (delivered false, c)

abbrev pub delivering : Cluster → ℕ → ℕ → Result
delivering c i budget = delivered_to (message_at c i).receiver (without_message c i) (message_at c i) budget

-- ## decide and leave

abbrev pub without_coordinator : Cluster → ℕ → Cluster
without_coordinator c tid = with_coordinators c (remove c.coordinators (place coordinator_tid tid c.coordinators))

abbrev pub decide_refusals : Cluster → ℕ → ℕ → List (Bool × Refusal)
decide_refusals c tid buffer =
    let k = coordinator_of c tid in
    (not (has_coordinator c tid), Missing)
    ∷ (not (all_voted k), NotReady)
    ∷ (not (has_room c (length (members k.participants))) || decision k && nat_lt buffer (length (reads_of k)), NoRoom)
    ∷ []

abbrev pub finish_to : ℕ → Party → Bool → ℕ → Message
finish_to tid who b q = record { tid = tid; sender = who; receiver = NodeParty q; body = finish b }

abbrev pub deciding : Cluster → ℕ → Result
deciding c tid =
    let k = coordinator_of c tid in (
      decided (decision k) (votes_of k) (cond (decision k) (reads_of k) []),
      sent (without_coordinator c tid) (to_each k.participants (finish_to tid CoordinatorParty (decision k))),
    )

abbrev pub leave_refusals : Cluster → ℕ → List (Bool × Refusal)
leave_refusals c tid = (not (has_coordinator c tid), Missing) ∷ []

-- ## recover, rule and stop

abbrev pub recover_refusals : Cluster → ℕ → ℕ → List (Bool × Refusal)
recover_refusals c q tid =
    let d = doubt_of (node_at c q).volatile tid in
    (not (has_node c q), Missing)
    ∷ (not (is_up_at c q), WrongCondition)
    ∷ (not (is_in_doubt (node_at c q).volatile tid), Missing)
    ∷ (not (has_room c (length (members d.participants))) || nat_le most_recoveries (length c.recoveries), NoRoom)
    ∷ (nat_le last_number c.last_recovery, Exhausted)
    ∷ []

abbrev pub inquiry_to : ℕ → Party → ℕ → Message
inquiry_to tid who q = record { tid = tid; sender = who; receiver = NodeParty q; body = inquiry }

abbrev pub recovering_of : Cluster → ℕ → ℕ → Result
recovering_of c q tid =
    let ps = (doubt_of (node_at c q).volatile tid).participants in
    let number = c.last_recovery + 1 in (
      recovering number,
      record {
        well_made = c.well_made;
        nodes = c.nodes;
        network = c.network ++ to_each ps (inquiry_to tid (RecoveryParty number));
        coordinators = c.coordinators;
        recoveries = c.recoveries ++ new_recovery number tid ps ∷ [];
        last_tid = c.last_tid;
        last_recovery = number;
      },
    )

abbrev pub without_recovery : Cluster → ℕ → Cluster
without_recovery c r = with_recoveries c (remove c.recoveries (place recovery_number r c.recoveries))

abbrev pub rule_refusals : Cluster → ℕ → List (Bool × Refusal)
rule_refusals c r =
    let k = recovery_of c r in
    (not (has_recovery c r), Missing)
    ∷ (not (all_replied k), NotReady)
    ∷ (not (has_room c (length (members k.participants))), NoRoom)
    ∷ []

abbrev pub ruling_of : Cluster → ℕ → Result
ruling_of c r =
    let k = recovery_of c r in
    (done, sent (without_recovery c r) (to_each k.participants (finish_to k.tid (RecoveryParty r) (ruling k))))

abbrev pub stop_refusals : Cluster → ℕ → List (Bool × Refusal)
stop_refusals c r = (not (has_recovery c r), Missing) ∷ []

-- ## cut and wake

abbrev pub cut_refusals : Cluster → ℕ → List (Bool × Refusal)
cut_refusals c q = (not (has_node c q), Missing) ∷ (is_down_at c q, WrongCondition) ∷ []

abbrev pub wake_refusals : Cluster → ℕ → List (Bool × Refusal)
wake_refusals c q = (not (has_node c q), Missing) ∷ (not (is_down_at c q), WrongCondition) ∷ []

-- ## inquire and resume

abbrev pub inquire_refusals : Cluster → ℕ → ℕ → ℕ → List (Bool × Refusal)
inquire_refusals c q tid other =
    let v = (node_at c q).volatile in
    (not (has_node c q), Missing)
    ∷ (not (is_recovering_at c q), WrongCondition)
    ∷ (not (is_unresolved v tid) || not (is_other c q (unresolved_of v tid).participants other), Missing)
    ∷ (not (has_room c 1), NoRoom)
    ∷ []

abbrev pub resume_refusals : Cluster → ℕ → List (Bool × Refusal)
resume_refusals c q =
    (not (has_node c q), Missing)
    ∷ (not (is_recovering_at c q), WrongCondition)
    ∷ (some_unresolved (node_at c q).volatile, NotReady)
    ∷ []

-- ## settle, query and collect

abbrev pub settle_refusals : Cluster → ℕ → List (Bool × Refusal)
settle_refusals c q = (not (has_node c q), Missing) ∷ (not (is_up_at c q), WrongCondition) ∷ []

abbrev pub query_refusals : Cluster → ℕ → ℕ → List (Bool × Refusal)
query_refusals c q other =
    let j = journal_of (node_at c q) in
    (not (has_node c q), Missing)
    ∷ (not (is_up_at c q), WrongCondition)
    ∷ (is_empty j || not (is_other c q (oldest j).participants other), Missing)
    ∷ (past j (oldest j), NotReady)
    ∷ (not (has_room c 1), NoRoom)
    ∷ []

abbrev pub query_to : ℕ → ℕ → ℕ → Message
query_to tid q other = record { tid = tid; sender = NodeParty q; receiver = NodeParty other; body = query }

-- whether nobody needs the oldest entry any more: it is aborted, or durably applied at every participant
abbrev pub is_collectable : ℕ → Node → Bool
is_collectable q n =
    let j = journal_of n in
    says false (oldest j).outcome
    || not (past j (oldest j))
    && every_member (λ p. (p == q) || slice_index_or n.volatile.acknowledged p false) (oldest j).participants

abbrev pub collect_refusals : Cluster → ℕ → List (Bool × Refusal)
collect_refusals c q =
    (not (has_node c q), Missing)
    ∷ (not (is_up_at c q), WrongCondition)
    ∷ (is_empty (journal_of (node_at c q)), Missing)
    ∷ (not (is_collectable q (node_at c q)), NotReady)
    ∷ []

-- ## show

abbrev pub show_refusals : Cluster → ℕ → ℕ → ℕ → List (Bool × Refusal)
show_refusals c q a n =
    (not (has_node c q), Missing)
    ∷ (not (is_up_at c q), WrongCondition)
    ∷ (n == 0 || nat_lt longest_item n, Malformed)
    ∷ (not (within (cells_of (node_at c q)) a n), OutOfRange)
    ∷ []

-- ## All calls

-- what a call answers and leaves, on a cluster that was made well; what a loss of power left is looked at by wake alone
unfoldable pub performed : Cluster → Call → Left → Result
performed c (opens bs) left = open_items c (decode_request bs)
performed c (delivers i budget) left = answered (first_of (place_refusals c i)) c (delivering c i budget)
performed c (loses i) left = answered (first_of (place_refusals c i)) c (done, without_message c i)
performed c (decides tid buffer) left = answered (first_of (decide_refusals c tid buffer)) c (deciding c tid)
performed c (leaves tid) left = answered (first_of (leave_refusals c tid)) c (done, without_coordinator c tid)
performed c (recovers q tid) left = answered (first_of (recover_refusals c q tid)) c (recovering_of c q tid)
performed c (rules r) left = answered (first_of (rule_refusals c r)) c (ruling_of c r)
performed c (stops r) left = answered (first_of (stop_refusals c r)) c (done, without_recovery c r)
performed c (cuts q) left = answered (first_of (cut_refusals c q)) c (done, with_node c q (powerless (node_at c q).stores))
performed c (wakes q) left = answered (first_of (wake_refusals c q)) c (done, with_node c q (restarting q (node_at c q) left))
performed c (inquires q tid other) left =
    answered (first_of (inquire_refusals c q tid other)) c (done, sent c (inquiry_to tid (NodeParty q) other ∷ []))
performed c (resumes q budget) left = answered (first_of (resume_refusals c q)) c (carried c q budget (resuming (node_at c q)) done)
performed c (settles q budget) left = answered (first_of (settle_refusals c q)) c (carried c q budget (settling (node_at c q)) done)
performed c (queries q other) left =
    answered (first_of (query_refusals c q other)) c (done, sent c (query_to (oldest (journal_of (node_at c q))).tid q other ∷ []))
performed c (collects q budget) left = answered (first_of (collect_refusals c q)) c (carried c q budget (collecting (node_at c q)) done)
performed c (shows q a n) left = answered (first_of (show_refusals c q a n)) c (shown (read_at (cells_of (node_at c q)) a n), c)

-- one call; a cluster that was not made well refuses every one
unfoldable pub step : Cluster → Call → Left → Result
step c call left = cond c.well_made (performed c call left) (refused WrongCondition, c)
