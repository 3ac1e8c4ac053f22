-- The cases that the rules add for states in which no history ends: that none does.
use Rattle.std.specs.Prelude.{◌≡◌, ℕ, true}
use Rattle.model.specs.Journal.{is_full}
use Rattle.model.specs.Node.{journal_of, is_up}
use Rattle.model.specs.Handling.{is_crowded}
use Rattle.model.specs.Cluster.{node_at}
use Rattle.model.specs.History.{History, Faithful, plain}

-- at a node that is up, the table of minitransactions in doubt is never full before the journal
abbrev pub NoTableFillsFirst : Type 0
NoTableFillsFirst =
    (h : History) → Faithful h → (q : ℕ) → is_up (node_at (plain h) q).volatile.condition ≡ true
    → is_crowded (node_at (plain h) q) ≡ is_full (journal_of (node_at (plain h) q))
