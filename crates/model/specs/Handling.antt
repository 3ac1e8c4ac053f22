-- What a node does with a message, in each condition, and what it does when it resumes, checkpoints and collects:
-- the durable writes in order, then the volatile change and the message to send.
use Rattle.std.specs.Prelude.{ℕ, ◌-◌, Bool, true, false, cond, not, ◌&&◌, ◌||◌, List, [], ◌∷◌, ◌++◌, map, length, set, Some, None, Option, ◌==◌, nat_le, slice_index_or, slice_set}
use Rattle.std.specs.List.{remove}
use Rattle.std.specs.Option.{unwrap_or}
use Rattle.model.specs.declared.condition.Condition.{Condition}
use Rattle.model.specs.declared.condition.Condition.TheVariants.{Up, Down, Recovering}
use Rattle.model.specs.declared.outcome.Outcome.{Outcome}
use Rattle.model.specs.declared.party.Party.{Party}
use Rattle.model.specs.declared.party.Party.TheVariants.{Node as NodeParty, Coordinator, Recovery}
use Rattle.model.specs.declared.vote.Vote.{Vote}
use Rattle.model.specs.declared.vote.Vote.TheVariants.{Yes, Busy, Forced, Mismatch, Full}
use Rattle.model.specs.Numbers.{most_entries}
use Rattle.model.specs.Items.{Item}
use Rattle.model.specs.Messages.{Body, Message, prepare, voted, finish, inquiry, reply, query, settled}
use Rattle.model.specs.Lists.{place, joined_by}
use Rattle.model.specs.Ranges.{writes_in, all_hold, read_items}
use Rattle.model.specs.Participants.{every_member}
use Rattle.model.specs.Journal.{Entry, Journal, has_entry, entry_of, is_empty, oldest, past, is_full, may_vote_yes, is_forced_full}
use Rattle.model.specs.Writes.{Write, add_entry, force, note, put, flush_memory, flush_journal, point, drop_oldest, fails, budgeted, applied_all}
use Rattle.model.specs.Node.{Node, powerless, Doubt, Unresolved, Volatile, cells_of, journal_of, is_in_doubt, doubt_of, doubt_tid, is_locked, is_unresolved, unresolved_of, unresolved_tid, nothing_but, of_none}

-- what a node does: nothing of it is sent or kept beyond the writes when power fails on the way
pub record Effect : Type 0 where
  pub writes : List Write
  pub volatile : Volatile
  pub sent : List Message

pub data Reaction : Type 0 where
  lost : Reaction
  taken : Effect → Reaction

-- The node after an effect, with a write budget. With one below 255 the first writes stand, as many as it allows, and
-- then the node is down: also where every write was made.
abbrev pub carried_out : ℕ → Effect → Node → Node
carried_out budget e n =
    let s = applied_all (budgeted budget e.writes) n.stores in
    cond (fails budget) (powerless s) (record { stores = s; volatile = e.volatile })

-- ## Effects

abbrev pub without_effect : Node → Effect
without_effect n = record { writes = []; volatile = n.volatile; sent = [] }

abbrev pub sending : Node → Message → Effect
sending n m = record { writes = []; volatile = n.volatile; sent = m ∷ [] }

-- a message from node q
abbrev pub from : ℕ → ℕ → Party → Body → Message
from q tid to b = record { tid = tid; sender = NodeParty q; receiver = to; body = b }

-- ## Volatile changes

abbrev pub with_doubts : Volatile → List Doubt → Volatile
with_doubts v ds =
    record { condition = v.condition; in_doubt = ds; unresolved = v.unresolved; acknowledged = v.acknowledged }

abbrev pub doubting : Volatile → ℕ → ℕ → List Item → Volatile
doubting v tid ps is = with_doubts v (v.in_doubt ++ record { tid = tid; participants = ps; items = is } ∷ [])

abbrev pub finished : Volatile → ℕ → Volatile
finished v tid = with_doubts v (remove v.in_doubt (place doubt_tid tid v.in_doubt))

abbrev pub acknowledging : Volatile → List Bool → Volatile
acknowledging v acks =
    record { condition = v.condition; in_doubt = v.in_doubt; unresolved = v.unresolved; acknowledged = acks }

abbrev pub with_unresolved : Volatile → ℕ → Unresolved → Volatile
with_unresolved v tid u =
    record {
      condition = v.condition;
      in_doubt = v.in_doubt;
      unresolved = slice_set v.unresolved (place unresolved_tid tid v.unresolved) u;
      acknowledged = v.acknowledged;
    }

-- ## Prepare

-- No room for a yes entry. The table of minitransactions in doubt has a place for each entry that a journal can have,
-- so at the end of no history the second test adds anything (Unreached.NoTableFillsFirst): it makes the rule say what
-- happens in every state.
abbrev pub is_crowded : Node → Bool
is_crowded n = is_full (journal_of n) || nat_le most_entries (length n.volatile.in_doubt)

abbrev pub vote_on : Node → ℕ → List Item → Vote
vote_on n tid is =
    cond (is_locked n.volatile is) Busy
    (cond (not (may_vote_yes (journal_of n) tid)) Forced
    (cond (not (all_hold (cells_of n) is)) Mismatch
    (cond (is_crowded n) Full
    Yes)))

abbrev pub prepared_as : Vote → ℕ → Node → ℕ → ℕ → List Item → Effect
prepared_as Yes q n tid ps is =
    record {
      writes = add_entry tid ps (writes_in is) ∷ [];
      volatile = doubting n.volatile tid ps is;
      sent = from q tid Coordinator (voted Yes (read_items (cells_of n) is)) ∷ [];
    }
prepared_as Busy q n tid ps is = sending n (from q tid Coordinator (voted Busy []))
prepared_as Forced q n tid ps is = sending n (from q tid Coordinator (voted Forced []))
prepared_as Mismatch q n tid ps is = sending n (from q tid Coordinator (voted Mismatch []))
prepared_as Full q n tid ps is = sending n (from q tid Coordinator (voted Full []))

abbrev pub prepared : ℕ → Node → ℕ → ℕ → List Item → Effect
prepared q n tid ps is = prepared_as (vote_on n tid is) q n tid ps is

-- ## Finish

abbrev pub puts_if : Bool → List Item → List Write
puts_if b ws = cond b (map put ws) []

abbrev pub finishing : Node → ℕ → Bool → Effect
finishing n tid b =
    cond (is_in_doubt n.volatile tid)
    (record {
      writes = note tid b ∷ puts_if b (writes_in (doubt_of n.volatile tid).items);
      volatile = finished n.volatile tid;
      sent = [];
    })
    (without_effect n)

-- ## Inquiry and reply

-- a no is a promise never to vote yes: it is kept in the journal before it is given
abbrev pub inquired : ℕ → Node → ℕ → Party → Reaction
inquired q n tid who =
    cond (has_entry (journal_of n) tid) (taken (sending n (from q tid who (reply true))))
    (cond (not (may_vote_yes (journal_of n) tid)) (taken (sending n (from q tid who (reply false))))
    (cond (is_forced_full (journal_of n)) lost
    (taken (record { writes = force tid ∷ []; volatile = n.volatile; sent = from q tid who (reply false) ∷ [] }))))

abbrev pub resolved_as : Unresolved → Bool → Unresolved
resolved_as u b = record { tid = u.tid; participants = u.participants; agreed = u.agreed; resolution = Some b }

-- node q hears a yes of node p; with the last of the others it is resolved
abbrev pub agreed_by : ℕ → ℕ → Unresolved → Unresolved
agreed_by q p u =
    let yes_heard = set u.agreed p true in
    record {
      tid = u.tid;
      participants = u.participants;
      agreed = yes_heard;
      resolution = cond (every_member (λ r. (r == q) || slice_index_or yes_heard r false) u.participants) (Some true) None;
    }

abbrev pub heard : ℕ → Party → Bool → Unresolved → Unresolved
heard q who false u = resolved_as u false
heard q (NodeParty p) true u = agreed_by q p u
heard q Coordinator true u = u
heard q (Recovery r) true u = u

abbrev pub replied : ℕ → Node → ℕ → Party → Bool → Effect
replied q n tid who b =
    cond (is_unresolved n.volatile tid)
    (record
    { writes = []; volatile = with_unresolved n.volatile tid (heard q who b (unresolved_of n.volatile tid)); sent = [] })
    (without_effect n)

-- ## Query and settled

-- nothing of the minitransaction depends on this journal any more
abbrev pub is_settled : Journal → ℕ → Bool
is_settled j tid = not (has_entry j tid) || not (past j (entry_of j tid))

abbrev pub queried : ℕ → Node → ℕ → Party → Effect
queried q n tid who = cond (is_settled (journal_of n) tid) (sending n (from q tid who settled)) (without_effect n)

abbrev pub acknowledged_by : Party → Volatile → Volatile
acknowledged_by (NodeParty p) v = acknowledging v (slice_set v.acknowledged p true)
acknowledged_by Coordinator v = v
acknowledged_by (Recovery r) v = v

abbrev pub is_oldest : Journal → ℕ → Bool
is_oldest j tid = not (is_empty j) && (oldest j).tid == tid

abbrev pub acknowledged : Node → ℕ → Party → Effect
acknowledged n tid who =
    cond (is_oldest (journal_of n) tid)
    (record { writes = []; volatile = acknowledged_by who n.volatile; sent = [] })
    (without_effect n)

-- ## All messages, by the condition of the node

-- what node q does with a message about a tid from a sender
abbrev pub reacting_in : Condition → Body → ℕ → Node → ℕ → Party → Reaction
reacting_in Up (prepare ps is) q n tid who = taken (prepared q n tid ps is)
reacting_in Up (voted v bs) q n tid who = taken (without_effect n)
reacting_in Up (finish b) q n tid who = taken (finishing n tid b)
reacting_in Up inquiry q n tid who = inquired q n tid who
reacting_in Up (reply b) q n tid who = lost
reacting_in Up query q n tid who = taken (queried q n tid who)
reacting_in Up settled q n tid who = taken (acknowledged n tid who)
reacting_in Recovering (prepare ps is) q n tid who = lost
reacting_in Recovering (voted v bs) q n tid who = taken (without_effect n)
reacting_in Recovering (finish b) q n tid who = lost
reacting_in Recovering inquiry q n tid who = inquired q n tid who
reacting_in Recovering (reply b) q n tid who = taken (replied q n tid who b)
reacting_in Recovering query q n tid who = taken (queried q n tid who)
reacting_in Recovering settled q n tid who = lost
reacting_in Down b q n tid who = lost

unfoldable pub reaction : ℕ → Node → Message → Reaction
reaction q n m = reacting_in n.volatile.condition m.body q n m.tid m.sender

-- ## Resume: replay of the journal, in its order

-- an entry without outcome takes what it was resolved as; without a resolution (no history gets there) it is aborted
abbrev pub resolution_of : Volatile → ℕ → Bool
resolution_of v tid = unwrap_or (unresolved_of v tid).resolution false

abbrev pub replay_as : Volatile → Entry → Option Outcome → List Write
replay_as v e (Some o) = puts_if o.commits e.writes
replay_as v e None = let b = resolution_of v e.tid in note e.tid b ∷ puts_if b e.writes

abbrev pub replay_entry : Node → Entry → List Write
replay_entry n e = cond (past (journal_of n) e) (replay_as n.volatile e e.outcome) []

abbrev pub resuming : Node → Effect
resuming n =
    record { writes = joined_by (replay_entry n) (journal_of n).entries; volatile = nothing_but Up; sent = [] }

-- ## Checkpoint

-- one less than the running number of the oldest entry in doubt, or the highest given
unfoldable pub checkpoint_of : Volatile → ℕ → List Entry → ℕ
checkpoint_of v highest [] = highest
checkpoint_of v highest (e ∷ es) = cond (is_in_doubt v e.tid) (e.running - 1) (checkpoint_of v highest es)

-- memory, journal, then the pointer: it must not pass what is not yet durable
abbrev pub settling : Node → Effect
settling n =
    record {
      writes = flush_memory ∷ flush_journal ∷ point (checkpoint_of n.volatile (journal_of n).highest (journal_of n).entries) ∷ [];
      volatile = n.volatile;
      sent = [];
    }

-- ## Collect

abbrev pub collecting : Node → Effect
collecting n = record { writes = drop_oldest ∷ []; volatile = acknowledging n.volatile of_none; sent = [] }
