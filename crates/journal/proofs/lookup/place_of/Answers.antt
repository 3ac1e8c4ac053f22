-- The loop follows the search.
use Rattle.std.proofs.Common.{◌<◌, length, rules}
use Rattle.journal.specs.Entries.{entry_meaning}
use Rattle.journal.proofs.Looking.{looked_here, looked_past}
use Rattle.journal.proofs.lookup.place_of.Goals as goal

pub returns-then-branch-tid : goal.returns-then-branch-tid
returns-then-branch-tid g c =
    let es = (g.J.Journal.log c.args.journal.now).entries
    in let within : c.loop-index.index < length es = search rules
    in let found = looked_here es c.args.tid _ c.loop-index.index (entry_meaning c.in_ok-entry.field-0)
    c.in_ok-place.ensures.place
    within
    c.in_ok-entry.ensures
    c.if-branch-tid.true
    c.loop-index.invariant
    in record { stands = found.0; place = found.1 }

pub loop-index-preserved : goal.loop-index-preserved
loop-index-preserved g c =
    let es = (g.J.Journal.log c.args.journal.now).entries
    in let within : c.loop-index.index < length es = search rules
    in looked_past es c.args.tid _ c.loop-index.index (entry_meaning c.in_ok-entry.field-0)
    c.in_ok-place.ensures.place
    within
    c.in_ok-entry.ensures
    c.if-branch-tid.false
    c.loop-index.invariant
