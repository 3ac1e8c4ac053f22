-- No entry that was passed has the tid.
use Rattle.std.proofs.Common.{◌≡◌, ◌+◌, drop}
use Rattle.model.specs.Lists.{place}
use Rattle.model.specs.Journal.{tid_of}
use Rattle.journal.proofs.lookup.place_of.Given as goal

abbrev pub invariant-loop-index : goal.invariant-loop-index
invariant-loop-index g l =
    l.index + place tid_of l.tid (drop l.index (g.J.Journal.log l.journal).entries) ≡
    place tid_of l.tid (g.J.Journal.log l.journal).entries
