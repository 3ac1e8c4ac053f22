-- The laws: what holds of every history of every cluster, in the words of the subject.
--
-- A history is all calls made of a cluster since it was made, with their answers. `plain h` is the cluster that follows
-- it, `ago k h` the history as it was k calls ago. The serial run takes the committed minitransactions, those for which
-- each participant has at some time written its yes entry, one by one in the order of their last yes entries, on the
-- memories as made: each compares, reads by node and item, then writes in item order.
use Rattle.std.specs.Prelude.{◌≡◌, ℕ, ◌+◌, ◌<◌, ◌≤◌, Bool, true, false, List, Some}
use Rattle.std.specs.List.{slice_get}
use Rattle.model.specs.declared.outcome.Outcome.{Outcome}
use Rattle.model.specs.Answers.{shown}
use Rattle.model.specs.Cells.{read_at}
use Rattle.model.specs.Journal.{Entry}
use Rattle.model.specs.Node.{journal_of, none_left, written_in_doubt}
use Rattle.model.specs.Cluster.{node_at}
use Rattle.model.specs.Calls.{shows, step}
use Rattle.model.specs.Deeds.{Yes}
use Rattle.model.specs.History.{History, Faithful, DecidedIn, plain, ago}
use Rattle.model.specs.SerialRun.{Turn, memory_at, yes_entries, serial_memories, serial_turn}

-- at this moment a node has, for a tid that was given, an entry that is finished so
pub record FinishedAt (h : History) (q tid : ℕ) (commits : Bool) : Type 0 where
  pub entry : Entry
  pub outcome : Outcome
  pub place : ℕ
  pub stands : slice_get (journal_of (node_at (plain h) q)).entries place ≡ Some entry
  pub noted : entry.outcome ≡ Some outcome
  pub about : entry.tid ≡ tid
  pub so : outcome.commits ≡ commits
  pub opened : (1 ≤ tid) × (tid ≤ (plain h).last_tid)

-- that a show at the end of the history answers with these bytes
abbrev pub ShownAt : History → ℕ → ℕ → ℕ → List ℕ → Type 0
ShownAt h q a n bytes = (step (plain h) (shows q a n) none_left).0 ≡ shown bytes

pub record Laws (h : History) : Type 0 where
  -- Agreement. No minitransaction is finished yes at one node or moment and no at another ..
  pub finished_alike : (k l p q tid : ℕ) (a b : Bool) → FinishedAt (ago k h) p tid a → FinishedAt (ago l h) q tid b → a ≡ b
  -- .. nor against its coordinator's decision, which is never two.
  pub finished_as_decided : (k q tid : ℕ) (a b : Bool) (bytes : List ℕ) → DecidedIn h tid a bytes → FinishedAt (ago k h) q tid b → a ≡ b
  pub decided_alike : (tid : ℕ) (a b : Bool) (bytes more : List ℕ) → DecidedIn h tid a bytes → DecidedIn h tid b more → a ≡ b
  -- Shown bytes. A node that is up shows, outside bytes that minitransactions in doubt there write, what the serial run leaves.
  pub shows_serial : (q a n i : ℕ) (bytes : List ℕ) → ShownAt h q a n bytes → i < n
      → written_in_doubt (node_at (plain h) q).volatile (a + i) ≡ false
      → slice_get bytes i ≡ slice_get (read_at (memory_at (serial_memories h) q) a n) i
  -- Serial comparisons and reads. In that run each committed one finds its comparisons true ..
  pub compares_true : (tid : ℕ) (t : Turn) → serial_turn h tid ≡ Some t → t.compared ≡ true
  -- .. and one decided yes reads exactly the bytes that its coordinator was given.
  pub reads_as_given : (tid : ℕ) (bytes : List ℕ) → DecidedIn h tid true bytes
      → serial_turn h tid ≡ Some (record { compared = true; reads = bytes })
  -- Each yes entry is written once, so that the order of the run is that of the last ones.
  pub yes_once : (i j : ℕ) (y : Yes) → slice_get (yes_entries h) i ≡ Some y → slice_get (yes_entries h) j ≡ Some y → i ≡ j

-- every history that can be obeys the laws
abbrev pub EveryHistoryIsLawful : Type 0
EveryHistoryIsLawful = (h : History) → Faithful h → Laws h
