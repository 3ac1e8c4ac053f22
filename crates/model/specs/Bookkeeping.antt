-- That what the past keeps of a call is all that the call did to what lasts, and that a refused write does nothing.
use Rattle.std.specs.Prelude.{◌≡◌, ℕ, ◌+◌, cond, List, Some, None, ◌==◌}
use Rattle.model.specs.declared.refusal.Refusal.{Refusal}
use Rattle.model.specs.Writes.{Stores, Write, refusal_of, applied, applied_all, applied_until, Accepted}
use Rattle.model.specs.Journal.{restarted}
use Rattle.model.specs.Node.{Left}
use Rattle.model.specs.Cluster.{Cluster, node_at}
use Rattle.model.specs.Calls.{Call, step}
use Rattle.model.specs.Deeds.{Deed, asked, wrote, woke, nothing, deed}

-- what a deed makes of the stores of node q: they change by its writes, and at a restart to what was left
abbrev pub stores_after : Deed → Left → ℕ → Stores → Stores
stores_after (asked is) left q s = s
stores_after (wrote p ws) left q s = cond (p == q) (applied_all ws s) s
stores_after (woke p) left q s = cond (p == q) (record { cells = left.cells; journal = restarted s.journal left.outcomes }) s
stores_after nothing left q s = s

-- the last tid given after a deed
abbrev pub tid_after : Deed → ℕ → ℕ
tid_after (asked is) tid = tid + 1
tid_after (wrote p ws) tid = tid
tid_after (woke p) tid = tid
tid_after nothing tid = tid

pub record DeedTells (c : Cluster) (call : Call) (left : Left) : Type 0 where
  pub stores : (q : ℕ) → (node_at (step c call left).1 q).stores ≡ stores_after (deed c call) left q (node_at c q).stores
  pub tids : (step c call left).1.last_tid ≡ tid_after (deed c call) c.last_tid

abbrev pub DeedsTellAll : Type 0
DeedsTellAll = (c : Cluster) (call : Call) (left : Left) → DeedTells c call left

-- what a store refuses alters nothing; where nothing is refused, stopping at refusals makes no difference
pub record WritesAreTotal : Type 0 where
  pub refused : (w : Write) (s : Stores) (r : Refusal) → refusal_of w s ≡ Some r → applied w s ≡ s
  pub accepted : (ws : List Write) (s : Stores) → Accepted ws s → applied_until ws s ≡ (None, applied_all ws s)
