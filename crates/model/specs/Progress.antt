-- That nothing in the laws is empty: there is a history in which every vote is yes, the decision is yes,
-- the bytes that a node shows change, and the entries are collected.
use Rattle.std.specs.Prelude.{◌≡◌, ℕ, true, List, [], ◌∷◌, Some}
use Rattle.model.specs.declared.vote.Vote.TheVariants.{Yes}
use Rattle.model.specs.Journal.{Entry}
use Rattle.model.specs.Node.{journal_of}
use Rattle.model.specs.Cluster.{node_at}
use Rattle.model.specs.Cells.{read_at}
use Rattle.model.specs.History.{History, Faithful, DecidedIn, plain, ago}
use Rattle.model.specs.SerialRun.{serial_turn, serial_memories, memory_at}
use Rattle.model.specs.Laws.{ShownAt, FinishedAt}

-- the entries that stand at a node
abbrev pub entries_at : History → ℕ → List Entry
entries_at h q = (journal_of (node_at (plain h) q)).entries

pub record Progress (h : History) : Type 0 where
  pub faithful : Faithful h
  -- a decide gave yes with every vote yes, and the bytes that node 1 read
  pub decision : DecidedIn h 1 true (0 ∷ 0 ∷ [])
  pub unanimous : decision.votes ≡ (Yes ∷ Yes ∷ [])
  -- at some moment it is finished yes at both nodes
  pub moment : ℕ
  pub finished : FinishedAt (ago moment h) 0 1 true × FinishedAt (ago moment h) 1 1 true
  -- later no entry stands any more
  pub collected : (entries_at h 0 ≡ []) × (entries_at h 1 ≡ [])
  -- what is shown has changed, as the serial run says
  pub before : ℕ
  pub changed : ShownAt (ago before h) 0 5 1 (0 ∷ []) × ShownAt h 0 5 1 (6 ∷ [])
  pub serially : read_at (memory_at (serial_memories h) 0) 5 1 ≡ (6 ∷ [])
  pub in_turn : serial_turn h 1 ≡ Some (record { compared = true; reads = 0 ∷ 0 ∷ [] })

abbrev pub SomeHistoryProgresses : Type 0
SomeHistoryProgresses = (h : History) × Progress h
