-- Every outcome is made durable.
use Rattle.std.proofs.Common.{◌≡◌, true, map, length, vec_items, ap, ◌∙◌, rules}
use Rattle.std.proofs.lemmas.List.{length-map, with_items_is}
use Rattle.model.specs.Journal.{with_entries, flushed}
use Rattle.journal.specs.Entries.{stored_entry, durable_entry}
use Rattle.journal.specs.Tables.{table_log}
use Rattle.journal.proofs.Tables.{durable_flushed}
use Rattle.journal.proofs.table.TableJournalJournal.flush.Goals as goal

pub returns : goal.returns
returns g c =
    let t = c.self.inside
    in let es = vec_items t.entries
    in let log = table_log es (vec_items t.forced) t.pointer t.highest t.capacity
    in let durable = c.make_durable.ensures ∙ ap (map (durable_entry true)) c.as_mut_slice.ensures.value
    in let long : length es ≡ t.entries.len = search rules
    in let kept = with_items_is t.entries c.make_durable.new.entries (ap length durable ∙ length-map es (durable_entry true) ∙ long)
    in ap (with_entries log) (ap (map stored_entry) (kept ∙ durable) ∙ durable_flushed es) ∙ ap flushed c.self.view_is
