-- That no history passes the bounds of a cluster and of its stores: they have room for all that the rules put there.
use Rattle.std.specs.Prelude.{◌≡◌, ℕ, ◌≤◌, true, length}
use Rattle.model.specs.Numbers.{most_messages, most_coordinators, most_recoveries, most_entries, most_forced, last_number}
use Rattle.model.specs.Journal.{Journal}
use Rattle.model.specs.Node.{cells_of, journal_of}
use Rattle.model.specs.Cluster.{Cluster, node_at}
use Rattle.model.specs.Making.{is_well_made, making}
use Rattle.model.specs.History.{History, Faithful, plain}

pub record Bounded (c : Cluster) : Type 0 where
  pub messages : length c.network ≤ most_messages
  pub coordinators : length c.coordinators ≤ most_coordinators
  pub recoveries : length c.recoveries ≤ most_recoveries
  pub tids : c.last_tid ≤ last_number
  pub recovery_numbers : c.last_recovery ≤ last_number

-- whatever the calls, and whatever a loss of power left; the nodes stay as many as the cluster was made of
abbrev pub EveryHistoryIsBounded : Type 0
EveryHistoryIsBounded = (h : History) → Bounded (plain h) × (length (plain h).nodes ≡ length h.beginning)

-- ## Stores

pub record JournalBounded (j : Journal) : Type 0 where
  pub entries : length j.entries ≤ j.capacity
  pub capacity : j.capacity ≤ most_entries
  pub forced : length j.forced ≤ most_forced
  pub running : j.highest ≤ last_number

-- of a cluster that was made well every journal stays within its bounds
abbrev pub EveryJournalIsBounded : Type 0
EveryJournalIsBounded = (h : History) → is_well_made h.beginning ≡ true → (q : ℕ) → JournalBounded (journal_of (node_at (plain h) q))

-- and every memory keeps its size
abbrev pub EveryMemoryKeepsItsSize : Type 0
EveryMemoryKeepsItsSize =
    (h : History) → Faithful h → (q : ℕ) → length (cells_of (node_at (plain h) q)) ≡ length (cells_of (node_at (making h.beginning) q))
