-- The entries that were passed are durable, the others as they were.
use Rattle.std.proofs.Common.{◌≡◌, ◌++◌, map, take, drop}
use Rattle.journal.specs.Entries.{durable_entry}
use Rattle.journal.proofs.table.make_durable.Given as goal

abbrev pub invariant-loop-entry : goal.invariant-loop-entry
invariant-loop-entry l =
    l.entries ≡ map (durable_entry l.keeps_pending) (take l.entry-index l.initial.entries) ++ drop l.entry-index l.initial.entries
