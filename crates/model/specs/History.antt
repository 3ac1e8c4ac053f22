-- Histories: what a cluster was made of and every call made of it since, with its answer; and the cluster that follows one.
use Rattle.std.specs.Prelude.{◌≡◌, ℕ, Bool, true, false, ◌⊎◌, List, [], ◌∷◌, length, drop, Some, None, Option, slice_index_or}
use Rattle.std.specs.List.{slice_get}
use Rattle.model.specs.declared.outcome.Outcome.{Outcome}
use Rattle.model.specs.declared.vote.Vote.{Vote}
use Rattle.model.specs.Answers.{Answer, decided}
use Rattle.model.specs.Items.{Item}
use Rattle.model.specs.Cells.{no_cell}
use Rattle.model.specs.Journal.{Entry}
use Rattle.model.specs.Writes.{Stores}
use Rattle.model.specs.Node.{Node, Left, cells_of, journal_of}
use Rattle.model.specs.Cluster.{Cluster, node_at}
use Rattle.model.specs.Making.{making}
use Rattle.model.specs.Calls.{Call, decides, step}
use Rattle.model.specs.Deeds.{Deed, asked, wrote, woke, nothing, deed, touched, Yes, yes_after, asked_after}

-- a call, with its answer; what a loss of power left is that of an accepted wake, and is not looked at elsewhere
pub record Event : Type 0 where
  pub call : Call
  pub left : Left
  pub answer : Answer

pub record History : Type 0 where
  pub beginning : List Stores  -- of each node, as the cluster was made
  pub events : List Event  -- newest first

-- ## The plain cluster

-- it follows the calls and what was left, never the answers
unfoldable pub following : List Stores → List Event → Cluster
following made [] = making made
following made (e ∷ es) = (step (following made es) e.call e.left).1

abbrev pub plain : History → Cluster
plain h = following h.beginning h.events

-- the history as it was so many calls ago
abbrev pub ago : ℕ → History → History
ago k h = record { beginning = h.beginning; events = drop k h.events }

-- what the plain cluster does at a call that follows these events
abbrev pub deed_after : List Stores → List Event → Call → Deed
deed_after made es call = deed (following made es) call

-- ## What a history tells of the past

-- whether byte k of node q was written since that memory was last flushed or restarted
unfoldable pub written_since : List Stores → List Event → ℕ → ℕ → Bool
written_since made [] q k = false
written_since made (e ∷ es) q k = touched (deed_after made es e.call) q k (written_since made es q k)

-- every yes entry ever written, newest first
unfoldable pub yes_log : List Stores → List Event → List Yes
yes_log made [] = []
yes_log made (e ∷ es) = yes_after (deed_after made es e.call) (yes_log made es)

-- the items of every minitransaction ever opened, oldest first
unfoldable pub requests : List Stores → List Event → List (List Item)
requests made [] = []
requests made (e ∷ es) = asked_after (deed_after made es e.call) (requests made es)

-- that a decide in the history gave this decision on a tid, and these bytes
pub record DecidedIn (h : History) (tid : ℕ) (commits : Bool) (bytes : List ℕ) : Type 0 where
  pub when : ℕ
  pub buffer : ℕ
  pub left : Left
  pub votes : List Vote
  pub given : slice_get h.events when ≡ Some (record { call = decides tid buffer; left = left; answer = decided commits votes bytes })

-- ## What a loss of power may leave

-- of an outcome: a pending one may be gone, nothing else alters
abbrev pub OutcomeLeft : Option Outcome → Option Bool → Type 0
OutcomeLeft None left = left ≡ None
OutcomeLeft (Some o) left = (left ≡ Some o.commits) ⊎ ((o.durable ≡ false) × (left ≡ None))

abbrev pub OutcomesLeft : List Entry → List (Option Bool) → Type 0
OutcomesLeft [] [] = Unit {0}
OutcomesLeft [] (o ∷ left) = ⊥
OutcomesLeft (e ∷ es) [] = ⊥
OutcomesLeft (e ∷ es) (o ∷ left) = OutcomeLeft e.outcome o × OutcomesLeft es left

-- of a node: as many cells, those that may not differ as they were, and its outcomes
pub record LeftOf (n : Node) (may_differ : ℕ → Bool) (left : Left) : Type 0 where
  pub size : length left.cells ≡ length (cells_of n)
  pub kept : (k : ℕ) → may_differ k ≡ false → slice_index_or left.cells k no_cell ≡ slice_index_or (cells_of n) k no_cell
  pub outcomes : OutcomesLeft (journal_of n).entries left.outcomes

abbrev pub LeftBy : Cluster → (ℕ → ℕ → Bool) → Deed → Left → Type 0
LeftBy c may_differ (asked is) left = Unit {0}
LeftBy c may_differ (wrote q ws) left = Unit {0}
LeftBy c may_differ (woke q) left = LeftOf (node_at c q) (may_differ q) left
LeftBy c may_differ nothing left = Unit {0}

-- ## Histories that can be

-- at each wake only bytes written since the last flush or restart differ, and only pending outcomes are missing
abbrev pub Fed : List Stores → List Event → Type 0
Fed made [] = Unit {0}
Fed made (e ∷ es) = LeftBy (following made es) (written_since made es) (deed_after made es e.call) e.left × Fed made es

-- each answer, with all values, is the plain cluster's
abbrev pub Answered : List Stores → List Event → Type 0
Answered made [] = Unit {0}
Answered made (e ∷ es) = (e.answer ≡ (step (following made es) e.call e.left).0) × Answered made es

pub record Faithful (h : History) : Type 0 where
  pub fed : Fed h.beginning h.events
  pub answered : Answered h.beginning h.events

-- ## What a running cluster shows

-- the plain cluster, and which bytes the memories call volatile, by node and address
pub record Shown : Type 0 where
  pub cluster : Cluster
  pub volatile : ℕ → ℕ → Bool

-- after a call only bytes are volatile that were before, or that it wrote and did not flush
abbrev pub Spared : Deed → (ℕ → ℕ → Bool) → (ℕ → ℕ → Bool) → Type 0
Spared d before now = (q k : ℕ) → now q k ≡ true → touched d q k (before q k) ≡ true

-- one call leads from what is shown to what is shown after it
pub record Leads (s : Shown) (e : Event) (t : Shown) : Type 0 where
  pub stepping : ◌≡◌ {A = Answer × Cluster} (e.answer, t.cluster) (step s.cluster e.call e.left)
  pub left : LeftBy s.cluster s.volatile (deed s.cluster e.call) e.left
  pub spared : Spared (deed s.cluster e.call) s.volatile t.volatile

-- a history leads to what is shown
abbrev pub LeadsTo : List Stores → List Event → Shown → Type 0
LeadsTo made [] t = (t.cluster ≡ making made) × ((q k : ℕ) → t.volatile q k ≡ false)
LeadsTo made (e ∷ es) t = (s : Shown) × (LeadsTo made es s × Leads s e t)
