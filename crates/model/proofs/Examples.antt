-- Small histories run by computing: a wrong rule gives another answer.
use Rattle.std.proofs.Common.{◌≡◌, ℕ, zero, suc, Bool, true, false, List, [], ◌∷◌, ◌++◌, map, get_or, replicate, Some, None, Option, refl}
use Rattle.model.specs.declared.refusal.Refusal.TheVariants.{Malformed, Missing, WrongCondition, OutOfRange, NoRoom, NotReady, Exhausted}
use Rattle.model.specs.declared.vote.Vote.TheVariants.{Yes, Busy, Forced, Mismatch, Full}
use Rattle.model.specs.declared.party.Party.TheVariants.{Node as NodeParty}
use Rattle.model.specs.Items.{Item, compare, read, write}
use Rattle.model.specs.Messages.{Message, voted}
use Rattle.model.specs.Handling.{Reaction, lost, taken, reaction, without_effect}
use Rattle.model.specs.Answers.{Answer, done, opened, delivered, decided, recovering, shown, refused, power_failed}
use Rattle.model.specs.Calls.{Call, opens, delivers, loses, decides, leaves, recovers, rules, stops, cuts, wakes, inquires, resumes, settles, queries, collects, shows, step}
use Rattle.model.specs.SerialRun.{serial_order, serial_turn, serial_memories, memory_at}
use Rattle.model.specs.Cells.{part}
use Rattle.model.specs.Journal.{empty_journal}
use Rattle.model.specs.Node.{Node, cells_of, journal_of}
use Rattle.model.specs.Cluster.{Cluster, node_at}
use Rattle.model.specs.Making.{making}
use Rattle.model.specs.Samples.{sample_stores, two_stores, two_nodes, asks, after, answers, history_of}
use Rattle.model.proofs.Computing.{every_rule}

-- ## The first lines

-- a vote is missing, and nothing shows yet
first_lines : answers two_nodes (opens (0 ∷ 8 ∷ 1 ∷ 1 ∷ 3 ∷ 0 ∷ 0 ∷ 5 ∷ 1 ∷ 24 ∷ []) ∷ delivers 0 255 ∷ decides 1 128 ∷ shows 0 5 1 ∷ [])
    ≡ (opened 1 ∷ delivered true ∷ refused NotReady ∷ shown (0 ∷ []) ∷ [])
unfolding every_rule
first_lines = refl

-- ## A commit

-- writes a byte at each node, compares and reads at both
exchange : List Item
exchange =
    write 1 9 (8 ∷ 7 ∷ []) ∷ compare 0 0 (0 ∷ []) ∷ read 1 20 2 ∷ write 0 5 (6 ∷ []) ∷ read 0 5 1 ∷ []

-- both prepares, both votes
voting : List Call
voting = asks exchange ∷ delivers 0 255 ∷ delivers 0 255 ∷ delivers 0 255 ∷ delivers 0 255 ∷ []

-- all of it up to the finish at both nodes
committing : List Call
committing = voting ++ (decides 1 3 ∷ delivers 0 255 ∷ delivers 0 255 ∷ [])

-- the buffer must hold the read bytes; they come by node, then item; the bytes show where the finish has come
commit : answers two_nodes (voting ++ (decides 1 2 ∷ decides 1 3 ∷ decides 1 3 ∷ shows 0 5 1 ∷ delivers 0 255 ∷ shows 0 5 1 ∷ shows 1 9 2 ∷ delivers 0 255 ∷ shows 1 9 2 ∷ delivers 0 255 ∷ []))
    ≡ (opened 1 ∷ delivered true ∷ delivered true ∷ delivered true ∷ delivered true
    ∷ refused NoRoom ∷ decided true (Yes ∷ Yes ∷ []) (0 ∷ 0 ∷ 0 ∷ []) ∷ refused Missing
    ∷ shown (0 ∷ []) ∷ delivered true ∷ shown (6 ∷ []) ∷ shown (0 ∷ 0 ∷ []) ∷ delivered true ∷ shown (8 ∷ 7 ∷ []) ∷ refused Missing ∷ [])
unfolding every_rule exchange voting
commit = refl

-- two in a row: the second reads what the first wrote, in the run as in the answer
following_reader : List Call
following_reader = committing ++ (asks (read 0 4 3 ∷ write 0 6 (9 ∷ []) ∷ []) ∷ delivers 0 255 ∷ delivers 0 255 ∷ decides 2 128 ∷ delivers 0 255 ∷ [])

serial_order_lem : serial_order (history_of two_stores following_reader) ≡ (2 ∷ 1 ∷ [])
unfolding every_rule exchange voting committing following_reader
serial_order_lem = refl

serial_reads : serial_turn (history_of two_stores following_reader) 2 ≡ Some (record { compared = true; reads = 0 ∷ 6 ∷ 0 ∷ [] })
unfolding every_rule exchange voting committing following_reader
serial_reads = refl

serial_bytes : get_or (memory_at (serial_memories (history_of two_stores following_reader)) 0) 6 0 ≡ 9
unfolding every_rule exchange voting committing following_reader
serial_bytes = refl

-- with one yes entry missing it is not committed
serial_none : serial_order (history_of two_stores (asks exchange ∷ delivers 0 255 ∷ [])) ≡ []
unfolding every_rule exchange
serial_none = refl

-- ## Aborts, by each vote

-- a comparison fails at node 1: no at both, nothing is written
mismatch : answers two_nodes
    (asks (write 0 5 (6 ∷ []) ∷ compare 1 9 (1 ∷ []) ∷ []) ∷ delivers 0 255 ∷ delivers 0 255 ∷ delivers 0 255 ∷ delivers 0 255
    ∷ decides 1 0 ∷ delivers 0 255 ∷ delivers 0 255 ∷ shows 0 5 1 ∷ collects 1 255 ∷ collects 0 255 ∷ collects 0 255 ∷ [])
    ≡ (opened 1 ∷ delivered true ∷ delivered true ∷ delivered true ∷ delivered true
    ∷ decided false (Yes ∷ Mismatch ∷ []) [] ∷ delivered true ∷ delivered true ∷ shown (0 ∷ [])
    ∷ refused Missing ∷ done ∷ refused Missing ∷ [])
unfolding every_rule
mismatch = refl

-- a reader in doubt keeps a writer out, and a writer in doubt keeps a comparison out; two readers go together
locks : answers two_nodes
    (asks (read 0 5 2 ∷ []) ∷ delivers 0 255 ∷ loses 0
    ∷ asks (write 0 6 (1 ∷ []) ∷ []) ∷ delivers 0 255 ∷ delivers 0 255 ∷ decides 2 0 ∷ loses 0
    ∷ asks (compare 0 5 (0 ∷ []) ∷ []) ∷ delivers 0 255 ∷ delivers 0 255 ∷ decides 3 0 ∷ loses 0
    ∷ asks (write 0 7 (1 ∷ []) ∷ []) ∷ delivers 0 255 ∷ delivers 0 255 ∷ decides 4 0 ∷ loses 0
    ∷ asks (compare 0 7 (0 ∷ []) ∷ []) ∷ delivers 0 255 ∷ delivers 0 255 ∷ decides 5 0 ∷ [])
    ≡ (opened 1 ∷ delivered true ∷ done
    ∷ opened 2 ∷ delivered true ∷ delivered true ∷ decided false (Busy ∷ []) [] ∷ done
    ∷ opened 3 ∷ delivered true ∷ delivered true ∷ decided true (Yes ∷ []) [] ∷ done
    ∷ opened 4 ∷ delivered true ∷ delivered true ∷ decided true (Yes ∷ []) [] ∷ done
    ∷ opened 5 ∷ delivered true ∷ delivered true ∷ decided false (Busy ∷ []) [] ∷ [])
unfolding every_rule
locks = refl

-- ## A recovery

-- the coordinator left after one finish was lost; the recovery asks every participant, the asking node too
recovery : answers two_nodes
    (voting ++ (leaves 1 ∷ decides 1 128 ∷ recovers 0 2 ∷ recovers 2 1 ∷ recovers 0 1 ∷ rules 1
    ∷ delivers 0 255 ∷ delivers 0 255 ∷ delivers 0 255 ∷ rules 1 ∷ delivers 0 255 ∷ rules 1 ∷ rules 1
    ∷ delivers 1 255 ∷ shows 1 9 2 ∷ shows 0 5 1 ∷ delivers 0 255 ∷ shows 0 5 1 ∷ []))
    ≡ (opened 1 ∷ delivered true ∷ delivered true ∷ delivered true ∷ delivered true
    ∷ done ∷ refused Missing ∷ refused Missing ∷ refused Missing ∷ recovering 1 ∷ refused NotReady
    ∷ delivered true ∷ delivered true ∷ delivered true ∷ refused NotReady ∷ delivered true ∷ done ∷ refused Missing
    ∷ delivered true ∷ shown (8 ∷ 7 ∷ []) ∷ shown (0 ∷ []) ∷ delivered true ∷ shown (6 ∷ []) ∷ [])
unfolding every_rule exchange voting
recovery = refl

-- a participant that has not voted yes promises never to: no at both, and its prepare gets the forced vote
recovery_aborts : answers two_nodes
    (asks exchange ∷ delivers 0 255 ∷ recovers 0 1 ∷ delivers 2 255 ∷ delivers 2 255 ∷ delivers 2 255 ∷ delivers 2 255 ∷ rules 1
    ∷ delivers 2 255 ∷ delivers 2 255 ∷ delivers 0 255 ∷ delivers 0 255 ∷ delivers 0 255 ∷ decides 1 128 ∷ shows 0 5 1 ∷ [])
    ≡ (opened 1 ∷ delivered true ∷ recovering 1 ∷ delivered true ∷ delivered true ∷ delivered true ∷ delivered true ∷ done
    ∷ delivered true ∷ delivered true ∷ delivered true ∷ delivered true ∷ delivered true ∷ decided false (Yes ∷ Forced ∷ []) [] ∷ shown (0 ∷ []) ∷ [])
unfolding every_rule exchange
recovery_aborts = refl

-- a recovery that is stopped, and messages to it and to a coordinator that left, are lost
gone : answers two_nodes
    (voting ++ (recovers 1 1 ∷ stops 1 ∷ stops 1 ∷ delivers 0 255 ∷ delivers 1 255 ∷ leaves 1 ∷ asks (read 0 0 1 ∷ []) ∷ leaves 2 ∷ delivers 1 255 ∷ delivers 1 255 ∷ loses 9 ∷ []))
    ≡ (opened 1 ∷ delivered true ∷ delivered true ∷ delivered true ∷ delivered true
    ∷ recovering 1 ∷ done ∷ refused Missing ∷ delivered true ∷ delivered false ∷ done ∷ opened 2 ∷ done ∷ delivered true ∷ delivered false ∷ refused Missing ∷ [])
unfolding every_rule exchange voting
gone = refl

-- ## Power fails in a finish, at every write

-- two write items at node 0
two_writes : List Call
two_writes =
    asks (write 0 5 (6 ∷ []) ∷ write 0 7 (8 ∷ []) ∷ []) ∷ delivers 0 255 ∷ delivers 0 255 ∷ decides 1 0 ∷ []

-- the finish with a budget, then a wake and a resume; the bytes before and after
finish_cut : ℕ → List Answer
finish_cut f = answers (after two_nodes two_writes) (delivers 0 f ∷ shows 0 5 3 ∷ cuts 0 ∷ resumes 0 255 ∷ wakes 0 ∷ resumes 0 255 ∷ shows 0 5 3 ∷ [])

cut_answers : List Answer
cut_answers = power_failed ∷ refused WrongCondition ∷ refused WrongCondition ∷ refused WrongCondition ∷ done ∷ done ∷ shown (6 ∷ 0 ∷ 8 ∷ []) ∷ []

-- a budget of three suffices for the note and the two items, and the node is down all the same
finish_cuts : (◌≡◌ {A = List (List Answer)}
    (finish_cut 0 ∷ finish_cut 1 ∷ finish_cut 2 ∷ finish_cut 3 ∷ finish_cut 254 ∷ [])
    (cut_answers ∷ cut_answers ∷ cut_answers ∷ cut_answers ∷ cut_answers ∷ []))
    × (finish_cut 255 ≡ (delivered true ∷ shown (6 ∷ 0 ∷ 8 ∷ []) ∷ done ∷ refused WrongCondition ∷ done ∷ done ∷ shown (6 ∷ 0 ∷ 8 ∷ []) ∷ []))
unfolding every_rule finish_cut cut_answers two_writes
finish_cuts = (refl, refl)

-- the bytes that stand while the node is down: no item, no item, the first, both
finish_bytes : (f : ℕ) → List ℕ
finish_bytes f = part (cells_of (node_at (after two_nodes (two_writes ++ (delivers 0 f ∷ []))) 0)) 5 3

finish_prefixes : ◌≡◌ {A = List (List ℕ)} (finish_bytes 0 ∷ finish_bytes 1 ∷ finish_bytes 2 ∷ finish_bytes 3 ∷ [])
    ((0 ∷ 0 ∷ 0 ∷ []) ∷ (0 ∷ 0 ∷ 0 ∷ []) ∷ (6 ∷ 0 ∷ 0 ∷ []) ∷ (6 ∷ 0 ∷ 8 ∷ []) ∷ [])
unfolding every_rule finish_bytes two_writes
finish_prefixes = refl

-- a message without effect counts too, one that is lost or that a coordinator takes does not
budget_counts : answers (after two_nodes two_writes)
    (asks (read 1 0 1 ∷ []) ∷ delivers 1 255 ∷ delivers 1 0 ∷ cuts 1 ∷ asks (read 1 0 1 ∷ []) ∷ delivers 1 0 ∷ cuts 0 ∷ delivers 0 0 ∷ wakes 0 ∷ resumes 0 255
    ∷ asks (read 0 0 1 ∷ []) ∷ leaves 4 ∷ delivers 0 255 ∷ delivers 0 7 ∷ [])
    ≡ (opened 2 ∷ delivered true ∷ delivered true ∷ done ∷ opened 3 ∷ delivered false ∷ done ∷ delivered false ∷ done ∷ done
    ∷ opened 4 ∷ done ∷ delivered true ∷ delivered false ∷ [])
unfolding every_rule two_writes
budget_counts = refl

-- a finish of what is no longer in doubt is taken without effect: with a budget below 255 the node goes down
no_effect : answers (after two_nodes two_writes) (recovers 0 1 ∷ delivers 0 255 ∷ delivers 0 255 ∷ delivers 0 255 ∷ rules 1 ∷ delivers 0 3 ∷ shows 0 5 1 ∷ [])
    ≡ (recovering 1 ∷ delivered true ∷ delivered true ∷ delivered true ∷ done ∷ power_failed ∷ refused WrongCondition ∷ [])
unfolding every_rule two_writes
no_effect = refl

-- ## Checkpoint, query, settled, collect

-- both nodes finished; node 0 may collect only when its own memory and that of node 1 are known to be durable
collecting : answers (after two_nodes committing)
    (collects 0 255 ∷ queries 0 1 ∷ settles 0 255 ∷ collects 0 255 ∷ queries 0 0 ∷ queries 0 2 ∷ queries 0 1 ∷ delivers 0 255 ∷ collects 0 255
    ∷ settles 1 255 ∷ queries 0 1 ∷ delivers 0 255 ∷ collects 0 255 ∷ delivers 0 255 ∷ collects 0 255 ∷ collects 0 255
    ∷ queries 1 0 ∷ delivers 0 255 ∷ delivers 0 255 ∷ collects 1 255 ∷ queries 1 0 ∷ shows 1 9 2 ∷ [])
    ≡ (refused NotReady ∷ refused NotReady ∷ done ∷ refused NotReady ∷ refused Missing ∷ refused Missing ∷ done ∷ delivered true ∷ refused NotReady
    ∷ done ∷ done ∷ delivered true ∷ refused NotReady ∷ delivered true ∷ done ∷ refused Missing
    ∷ done ∷ delivered true ∷ delivered true ∷ done ∷ refused Missing ∷ shown (8 ∷ 7 ∷ []) ∷ [])
unfolding every_rule exchange voting committing
collecting = refl

-- the pointer stops before the oldest entry in doubt
pointer_stops : answers (after two_nodes voting) (settles 0 255 ∷ queries 0 1 ∷ decides 1 128 ∷ delivers 0 255 ∷ settles 0 255 ∷ queries 0 1 ∷ [])
    ≡ (done ∷ refused NotReady ∷ decided true (Yes ∷ Yes ∷ []) (0 ∷ 0 ∷ 0 ∷ []) ∷ delivered true ∷ done ∷ done ∷ [])
unfolding every_rule exchange voting
pointer_stops = refl

-- power fails in a checkpoint: only the third write moves the pointer; after two the outcome is durable
checkpoint_cut : ℕ → List Answer
checkpoint_cut f =
    answers (after two_nodes committing) (settles 0 f ∷ wakes 0 ∷ inquires 0 1 1 ∷ resumes 0 255 ∷ [])

checkpoint_cuts : ◌≡◌ {A = List (List Answer)}
    (checkpoint_cut 0 ∷ checkpoint_cut 1 ∷ checkpoint_cut 2 ∷ checkpoint_cut 3 ∷ [])
    ((power_failed ∷ done ∷ done ∷ refused NotReady ∷ []) ∷ (power_failed ∷ done ∷ done ∷ refused NotReady ∷ [])
    ∷ (power_failed ∷ done ∷ refused Missing ∷ done ∷ []) ∷ (power_failed ∷ done ∷ refused Missing ∷ done ∷ []) ∷ [])
unfolding every_rule exchange voting committing checkpoint_cut
checkpoint_cuts = refl

pointer_after : ℕ → ℕ
pointer_after f = (journal_of (node_at (after two_nodes (committing ++ (settles 0 f ∷ []))) 0)).pointer

checkpoint_pointers : ◌≡◌ {A = List ℕ} (pointer_after 0 ∷ pointer_after 1 ∷ pointer_after 2 ∷ pointer_after 3 ∷ []) (0 ∷ 0 ∷ 0 ∷ 1 ∷ [])
unfolding every_rule exchange voting committing pointer_after
checkpoint_pointers = refl

-- ## A restart

-- node 1 loses power in doubt, asks node 0, which has finished, and replays
restart : answers (after two_nodes (voting ++ (decides 1 128 ∷ delivers 0 255 ∷ loses 0 ∷ cuts 1 ∷ [])))
    (wakes 0 ∷ wakes 1 ∷ wakes 1 ∷ shows 1 9 2 ∷ inquires 1 2 0 ∷ inquires 1 1 1 ∷ inquires 0 1 1 ∷ resumes 1 255 ∷ inquires 1 1 0
    ∷ delivers 0 255 ∷ resumes 1 255 ∷ delivers 0 255 ∷ inquires 1 1 0 ∷ resumes 1 255 ∷ shows 1 9 2 ∷ [])
    ≡ (refused WrongCondition ∷ done ∷ refused WrongCondition ∷ refused WrongCondition ∷ refused Missing ∷ refused Missing ∷ refused WrongCondition ∷ refused NotReady ∷ done
    ∷ delivered true ∷ refused NotReady ∷ delivered true ∷ refused Missing ∷ done ∷ shown (8 ∷ 7 ∷ []) ∷ [])
unfolding every_rule exchange voting
restart = refl

-- node 0 loses power in doubt while node 1 has not had its prepare: node 1 replies no, and node 0 resolves it so
restart_aborts : answers two_nodes
    (asks exchange ∷ delivers 0 255 ∷ cuts 0 ∷ wakes 0 ∷ inquires 0 1 1 ∷ delivers 2 255 ∷ delivers 2 255 ∷ resumes 0 255 ∷ shows 0 5 1
    ∷ delivers 0 255 ∷ delivers 0 255 ∷ delivers 0 255 ∷ decides 1 128 ∷ collects 0 255 ∷ [])
    ≡ (opened 1 ∷ delivered true ∷ done ∷ done ∷ done ∷ delivered true ∷ delivered true ∷ done ∷ shown (0 ∷ [])
    ∷ delivered true ∷ delivered true ∷ delivered true ∷ decided false (Yes ∷ Forced ∷ []) [] ∷ done ∷ [])
unfolding every_rule exchange
restart_aborts = refl

-- power fails in a resume at each write (a note and one item), and the next restart replays the same
resume_cut : ℕ → List Answer
resume_cut f =
    answers (after two_nodes (voting ++ (decides 1 128 ∷ loses 0 ∷ loses 0 ∷ cuts 0 ∷ wakes 0 ∷ inquires 0 1 1 ∷ delivers 0 255 ∷ delivers 0 255 ∷ [])))
    (resumes 0 f ∷ wakes 0 ∷ resumes 0 255 ∷ inquires 0 1 1 ∷ delivers 0 255 ∷ delivers 0 255 ∷ resumes 0 255 ∷ shows 0 5 1 ∷ [])

resume_answers : List Answer
resume_answers = power_failed ∷ done ∷ refused NotReady ∷ done ∷ delivered true ∷ delivered true ∷ done ∷ shown (6 ∷ []) ∷ []

resume_cuts : ◌≡◌ {A = List (List Answer)}
    (resume_cut 0 ∷ resume_cut 1 ∷ resume_cut 2 ∷ [])
    (resume_answers ∷ resume_answers ∷ resume_answers ∷ [])
unfolding every_rule exchange voting resume_cut resume_answers
resume_cuts = refl

-- messages to a node that is down or recovering
conditions : answers (after two_nodes (asks exchange ∷ cuts 0 ∷ []))
    (delivers 0 0 ∷ wakes 0 ∷ asks (read 0 0 1 ∷ []) ∷ delivers 1 0 ∷ resumes 0 255 ∷ cuts 2 ∷ cuts 0 ∷ cuts 0 ∷ settles 0 255 ∷ collects 0 255 ∷ queries 0 1 ∷ recovers 0 1 ∷ [])
    ≡ (delivered false ∷ done ∷ opened 2 ∷ delivered false ∷ done ∷ refused Missing ∷ done ∷ refused WrongCondition ∷ refused WrongCondition ∷ refused WrongCondition ∷ refused WrongCondition ∷ refused WrongCondition ∷ [])
unfolding every_rule exchange
conditions = refl

-- ## Making

-- a cluster of five nodes, or with a journal of no capacity, refuses every call
not_made : ◌≡◌ {A = List (List Answer)}
    (answers (making (sample_stores ∷ sample_stores ∷ sample_stores ∷ sample_stores ∷ sample_stores ∷ [])) (cuts 0 ∷ loses 0 ∷ opens [] ∷ shows 9 0 0 ∷ [])
    ∷ answers (making (record { cells = []; journal = empty_journal 0 } ∷ [])) (cuts 0 ∷ [])
    ∷ answers (making (record { cells = []; journal = empty_journal 17 } ∷ [])) (cuts 0 ∷ [])
    ∷ answers (making (record { cells = []; journal = empty_journal 16 } ∷ [])) (cuts 0 ∷ []) ∷ [])
    ((refused WrongCondition ∷ refused WrongCondition ∷ refused WrongCondition ∷ refused WrongCondition ∷ [])
    ∷ (refused WrongCondition ∷ []) ∷ (refused WrongCondition ∷ []) ∷ (done ∷ []) ∷ [])
unfolding every_rule
not_made = refl

-- ## Room

-- eight coordinators stand; a ninth finds no room, and finds it again when one has left
coordinators_full : answers two_nodes
    (asks (read 0 0 1 ∷ []) ∷ asks (read 0 0 1 ∷ []) ∷ asks (read 0 0 1 ∷ []) ∷ asks (read 0 0 1 ∷ [])
    ∷ asks (read 0 0 1 ∷ []) ∷ asks (read 0 0 1 ∷ []) ∷ asks (read 0 0 1 ∷ []) ∷ asks (read 0 0 1 ∷ [])
    ∷ asks (read 0 0 1 ∷ []) ∷ leaves 3 ∷ leaves 3 ∷ asks (read 0 0 1 ∷ []) ∷ [])
    ≡ (opened 1 ∷ opened 2 ∷ opened 3 ∷ opened 4 ∷ opened 5 ∷ opened 6 ∷ opened 7 ∷ opened 8
    ∷ refused NoRoom ∷ done ∷ refused Missing ∷ opened 9 ∷ [])
unfolding every_rule
coordinators_full = refl

-- refusals of open in their order: node, range, room
open_order : answers two_nodes
    (asks (read 0 64 1 ∷ read 2 0 1 ∷ []) ∷ asks (read 0 64 1 ∷ []) ∷ asks (write 0 60 (1 ∷ 2 ∷ 3 ∷ 4 ∷ 5 ∷ []) ∷ []) ∷ opens [] ∷ asks [] ∷ asks (write 0 60 (1 ∷ 2 ∷ 3 ∷ 4 ∷ []) ∷ []) ∷ [])
    ≡ (refused Missing ∷ refused OutOfRange ∷ refused OutOfRange ∷ refused Malformed ∷ refused Malformed ∷ opened 1 ∷ [])
unfolding every_rule
open_order = refl

show_order : answers two_nodes (shows 2 0 0 ∷ shows 0 64 0 ∷ shows 0 60 17 ∷ shows 0 60 5 ∷ shows 0 60 4 ∷ shows 0 0 16 ∷ cuts 0 ∷ shows 0 0 0 ∷ [])
    ≡ (refused Missing ∷ refused Malformed ∷ refused Malformed ∷ refused OutOfRange ∷ shown (0 ∷ 0 ∷ 0 ∷ 0 ∷ [])
    ∷ shown (0 ∷ 0 ∷ 0 ∷ 0 ∷ 0 ∷ 0 ∷ 0 ∷ 0 ∷ 0 ∷ 0 ∷ 0 ∷ 0 ∷ 0 ∷ 0 ∷ 0 ∷ 0 ∷ []) ∷ done ∷ refused WrongCondition ∷ [])
unfolding every_rule
show_order = refl

-- ## Three nodes

three_nodes : Cluster
three_nodes = making (sample_stores ∷ sample_stores ∷ sample_stores ∷ [])

-- all three vote yes; node 0 loses power before the finish, and needs a yes of both others
three_restart : answers three_nodes
    (asks (write 0 5 (6 ∷ []) ∷ write 1 5 (7 ∷ []) ∷ write 2 5 (8 ∷ []) ∷ []) ∷ delivers 0 255 ∷ delivers 0 255 ∷ delivers 0 255 ∷ delivers 0 255 ∷ delivers 0 255 ∷ delivers 0 255
    ∷ cuts 0 ∷ wakes 0 ∷ inquires 0 1 2 ∷ delivers 0 255 ∷ delivers 0 255 ∷ resumes 0 255 ∷ inquires 0 1 1 ∷ inquires 0 1 1 ∷ delivers 0 255 ∷ delivers 1 255 ∷ resumes 0 255 ∷ shows 0 5 1
    ∷ delivers 0 255 ∷ delivers 0 255 ∷ decides 1 128 ∷ delivers 0 255 ∷ delivers 0 255 ∷ delivers 0 255 ∷ shows 2 5 1 ∷ [])
    ≡ (opened 1 ∷ delivered true ∷ delivered true ∷ delivered true ∷ delivered true ∷ delivered true ∷ delivered true
    ∷ done ∷ done ∷ done ∷ delivered true ∷ delivered true ∷ refused NotReady ∷ done ∷ done ∷ delivered true ∷ delivered true ∷ done ∷ shown (6 ∷ [])
    ∷ delivered true ∷ delivered false ∷ decided true (Yes ∷ Yes ∷ Yes ∷ []) [] ∷ delivered true ∷ delivered true ∷ delivered true ∷ shown (8 ∷ []) ∷ [])
unfolding every_rule three_nodes
three_restart = refl

-- a no of one is enough, whatever the others say
three_aborts : answers three_nodes
    (asks (write 0 5 (6 ∷ []) ∷ write 1 5 (7 ∷ []) ∷ write 2 5 (8 ∷ []) ∷ []) ∷ delivers 0 255 ∷ delivers 0 255
    ∷ recovers 0 1 ∷ delivers 3 255 ∷ delivers 3 255 ∷ delivers 3 255 ∷ delivers 3 255 ∷ delivers 3 255 ∷ rules 1 ∷ delivers 3 255 ∷ rules 1
    ∷ delivers 3 255 ∷ delivers 3 255 ∷ delivers 3 255 ∷ shows 0 5 1 ∷ collects 0 255 ∷ collects 1 255 ∷ collects 2 255 ∷ [])
    ≡ (opened 1 ∷ delivered true ∷ delivered true
    ∷ recovering 1 ∷ delivered true ∷ delivered true ∷ delivered true ∷ delivered true ∷ delivered true ∷ refused NotReady ∷ delivered true ∷ done
    ∷ delivered true ∷ delivered true ∷ delivered true ∷ shown (0 ∷ []) ∷ done ∷ done ∷ refused Missing ∷ [])
unfolding every_rule three_nodes
three_aborts = refl

-- ## Messages that come late

-- a reply to a node that is up, and a finish to one that is recovering, are lost
late : answers (after two_nodes (voting ++ (decides 1 128 ∷ cuts 0 ∷ wakes 0 ∷ [])))
    (delivers 0 255 ∷ inquires 0 1 1 ∷ inquires 0 1 1 ∷ delivers 1 255 ∷ delivers 1 255 ∷ delivers 1 255 ∷ resumes 0 255 ∷ delivers 1 255 ∷ shows 0 5 1 ∷ [])
    ≡ (delivered false ∷ done ∷ done ∷ delivered true ∷ delivered true ∷ delivered true ∷ done ∷ delivered false ∷ shown (6 ∷ []) ∷ [])
unfolding every_rule exchange voting
late = refl

-- two committed; a settled about the first does not speak for the second
two_committed : List Call
two_committed =
    committing ++ (asks (write 0 5 (1 ∷ []) ∷ read 1 0 1 ∷ []) ∷ delivers 0 255 ∷ delivers 0 255 ∷ delivers 0 255 ∷ delivers 0 255 ∷ decides 2 1 ∷ delivers 0 255 ∷ delivers 0 255 ∷ settles 0 255 ∷ settles 1 255 ∷ [])

one_by_one : answers (after two_nodes two_committed)
    (queries 0 1 ∷ queries 0 1 ∷ delivers 0 255 ∷ delivers 0 255 ∷ delivers 0 255 ∷ collects 0 255 ∷ collects 0 255 ∷ delivers 0 255 ∷ collects 0 255
    ∷ queries 0 1 ∷ delivers 0 255 ∷ delivers 0 255 ∷ cuts 0 ∷ wakes 0 ∷ resumes 0 255 ∷ collects 0 255
    ∷ queries 0 1 ∷ delivers 0 255 ∷ delivers 0 255 ∷ collects 0 255 ∷ collects 0 255 ∷ shows 0 5 1 ∷ [])
    ≡ (done ∷ done ∷ delivered true ∷ delivered true ∷ delivered true ∷ done ∷ refused NotReady ∷ delivered true ∷ refused NotReady
    ∷ done ∷ delivered true ∷ delivered true ∷ done ∷ done ∷ done ∷ refused NotReady
    ∷ done ∷ delivered true ∷ delivered true ∷ done ∷ refused Missing ∷ shown (1 ∷ []) ∷ [])
unfolding every_rule exchange voting committing two_committed
one_by_one = refl

-- a vote that reaches a node is taken without effect while it has power
stray_vote : Message
stray_vote = record { tid = 1; sender = NodeParty 1; receiver = NodeParty 0; body = voted Busy [] }

stray : ◌≡◌ {A = List Reaction}
    (reaction 0 (node_at two_nodes 0) stray_vote ∷ reaction 0 (node_at (after two_nodes (cuts 0 ∷ wakes 0 ∷ [])) 0) stray_vote ∷ reaction 0 (node_at (after two_nodes (cuts 0 ∷ [])) 0) stray_vote ∷ [])
    (taken (without_effect (node_at two_nodes 0)) ∷ taken (without_effect (node_at (after two_nodes (cuts 0 ∷ wakes 0 ∷ [])) 0)) ∷ lost ∷ [])
unfolding every_rule stray_vote
stray = refl

-- ## Bytes lost with the power

-- node 0 with power again, its bytes all 99 where they were not flushed, and these outcomes left
woken : List Call → List (Option Bool) → Cluster
woken calls left = (step (after two_nodes (calls ++ (cuts 0 ∷ []))) (wakes 0) (record { cells = replicate 64 99; outcomes = left })).1

-- a pending outcome that survived does not spare the writing of the items
replay_all : answers (woken committing (Some true ∷ [])) (resumes 0 255 ∷ shows 0 5 1 ∷ [])
    ≡ (done ∷ shown (6 ∷ []) ∷ [])
unfolding every_rule exchange voting committing woken
replay_all = refl

-- two writers of one byte, alone on node 0: the later one has the last word
replay_order : answers
    (woken (asks (write 0 5 (1 ∷ []) ∷ []) ∷ delivers 0 255 ∷ delivers 0 255 ∷ decides 1 0 ∷ delivers 0 255
    ∷ asks (write 0 5 (2 ∷ 3 ∷ []) ∷ write 0 6 (4 ∷ []) ∷ []) ∷ delivers 0 255 ∷ delivers 0 255 ∷ decides 2 0 ∷ []) (None ∷ None ∷ []))
    (resumes 0 255 ∷ shows 0 4 3 ∷ [])
    ≡ (done ∷ shown (99 ∷ 2 ∷ 4 ∷ []) ∷ [])
unfolding every_rule woken
replay_order = refl

-- what lies at or before the pointer is not replayed: nothing but bytes written since may have been lost
replay_past : answers (woken (committing ++ (settles 0 255 ∷ [])) (Some true ∷ [])) (resumes 0 255 ∷ shows 0 5 1 ∷ [])
    ≡ (done ∷ shown (99 ∷ []) ∷ [])
unfolding every_rule exchange voting committing woken
replay_past = refl

-- ## The bounds

recoveries_full : answers (after two_nodes voting)
    (recovers 0 1 ∷ recovers 1 1 ∷ recovers 0 1 ∷ recovers 0 1 ∷ recovers 0 1 ∷ stops 2 ∷ recovers 0 1 ∷ [])
    ≡ (recovering 1 ∷ recovering 2 ∷ recovering 3 ∷ recovering 4 ∷ refused NoRoom ∷ done ∷ recovering 5 ∷ [])
unfolding every_rule exchange voting
recoveries_full = refl

-- so many pairs of prepares under way, their coordinators gone
unfoldable crowds : ℕ → List Call
crowds zero = []
crowds (suc n) = crowds n ++ (asks (read 0 0 1 ∷ read 1 0 1 ∷ []) ∷ leaves (suc n) ∷ [])

-- the 32 places are taken: two more, or one more, find no room; one that leaves makes room for one, not for two
network_full : answers (after two_nodes (crowds 16))
    (asks (read 0 0 1 ∷ []) ∷ loses 31 ∷ loses 31 ∷ asks (read 0 0 1 ∷ read 1 0 1 ∷ []) ∷ asks (read 0 0 1 ∷ []) ∷ asks (read 0 0 1 ∷ []) ∷ [])
    ≡ (refused NoRoom ∷ done ∷ refused Missing ∷ refused NoRoom ∷ opened 17 ∷ refused NoRoom ∷ [])
unfolding every_rule crowds
network_full = refl

crowds_from_two : List Call
crowds_from_two =
    asks (read 0 0 1 ∷ read 1 0 1 ∷ []) ∷ leaves 2 ∷ asks (read 0 0 1 ∷ read 1 0 1 ∷ []) ∷ leaves 3 ∷ asks (read 0 0 1 ∷ read 1 0 1 ∷ []) ∷ leaves 4 ∷ asks (read 0 0 1 ∷ read 1 0 1 ∷ []) ∷ leaves 5
    ∷ asks (read 0 0 1 ∷ read 1 0 1 ∷ []) ∷ leaves 6 ∷ asks (read 0 0 1 ∷ read 1 0 1 ∷ []) ∷ leaves 7 ∷ asks (read 0 0 1 ∷ read 1 0 1 ∷ []) ∷ leaves 8 ∷ asks (read 0 0 1 ∷ read 1 0 1 ∷ []) ∷ leaves 9
    ∷ asks (read 0 0 1 ∷ read 1 0 1 ∷ []) ∷ leaves 10 ∷ asks (read 0 0 1 ∷ read 1 0 1 ∷ []) ∷ leaves 11 ∷ asks (read 0 0 1 ∷ read 1 0 1 ∷ []) ∷ leaves 12 ∷ asks (read 0 0 1 ∷ read 1 0 1 ∷ []) ∷ leaves 13
    ∷ asks (read 0 0 1 ∷ read 1 0 1 ∷ []) ∷ leaves 14 ∷ asks (read 0 0 1 ∷ read 1 0 1 ∷ []) ∷ leaves 15 ∷ asks (read 0 0 1 ∷ read 1 0 1 ∷ []) ∷ leaves 16 ∷ asks (read 0 0 1 ∷ read 1 0 1 ∷ []) ∷ leaves 17
    ∷ []

-- with the network full a vote still finds the place of its prepare, and a decide waits for room
decide_waits : answers (after two_nodes (voting ++ crowds_from_two)) (decides 1 128 ∷ loses 0 ∷ decides 1 128 ∷ loses 0 ∷ decides 1 128 ∷ [])
    ≡ (refused NoRoom ∷ done ∷ refused NoRoom ∷ done ∷ decided true (Yes ∷ Yes ∷ []) (0 ∷ 0 ∷ 0 ∷ []) ∷ [])
unfolding every_rule exchange voting crowds_from_two
decide_waits = refl

-- a cluster that has given these numbers
having_given : ℕ → ℕ → ℕ → Cluster → Cluster
having_given tid recovery running c =
    record {
      well_made = c.well_made;
      nodes = map (λ (n : Node). record { stores = record { cells = cells_of n; journal = record { entries = (journal_of n).entries; forced = []; pointer = 0; highest = running; capacity = 4 } }; volatile = n.volatile }) c.nodes;
      network = c.network;
      coordinators = c.coordinators;
      recoveries = c.recoveries;
      last_tid = tid;
      last_recovery = recovery;
    }

-- the last tid, running number and recovery can be given, and no further one
last_numbers : answers (having_given 65534 65534 65534 two_nodes)
    (asks (write 0 5 (6 ∷ []) ∷ []) ∷ asks (read 0 0 1 ∷ []) ∷ delivers 0 255 ∷ recovers 0 65535 ∷ recovers 0 65535 ∷ [])
    ≡ (opened 65535 ∷ refused Exhausted ∷ delivered true ∷ recovering 65535 ∷ refused Exhausted ∷ [])
unfolding every_rule having_given
last_numbers = refl

running_exhausted : answers (having_given 0 0 65535 two_nodes)
    (asks (read 0 0 1 ∷ []) ∷ delivers 0 255 ∷ delivers 0 255 ∷ decides 1 128 ∷ [])
    ≡ (opened 1 ∷ delivered true ∷ delivered true ∷ decided false (Full ∷ []) [] ∷ [])
unfolding every_rule having_given
running_exhausted = refl
