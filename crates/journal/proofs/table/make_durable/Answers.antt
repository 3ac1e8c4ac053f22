-- Each turn makes the next outcome durable.
use Rattle.std.proofs.Common.{rules}
use Rattle.std.proofs.lemmas.List.Edits.{map_over_more}
use Rattle.journal.specs.Entries.{durable_entry}
use Rattle.journal.proofs.table.make_durable.Goals as goal

pub loop-entry-preserved : goal.loop-entry-preserved
loop-entry-preserved c = search (rules, map_over_more (durable_entry c.args.keeps_pending))
