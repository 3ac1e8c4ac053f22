-- Every pending outcome is lost.
use Rattle.std.proofs.Common.{◌≡◌, false, map, length, vec_items, ap, ◌∙◌, rules}
use Rattle.std.proofs.lemmas.List.{length-map, with_items_is}
use Rattle.model.specs.Journal.{Journal as Log, with_entries, restarted}
use Rattle.journal.specs.Entries.{stored_entry, durable_entry}
use Rattle.journal.specs.Tables.{table_log}
use Rattle.journal.specs.Restarts.{only_durable}
use Rattle.journal.proofs.Tables.{durable_lost, durable_left}
use Rattle.journal.proofs.table.TableJournalJournal.restart.Goals as goal

pub returns : goal.returns
returns g c =
    let t = c.self.inside
    in let es = vec_items t.entries
    in let log = table_log es (vec_items t.forced) t.pointer t.highest t.capacity
    in let durable = c.make_durable.ensures ∙ ap (map (durable_entry false)) c.as_mut_slice.ensures.value
    in let long : length es ≡ t.entries.len = search rules
    in let kept = with_items_is t.entries c.make_durable.new.entries (ap length durable ∙ length-map es (durable_entry false) ∙ long)
    in let holds = ap (with_entries log) (ap (map stored_entry) (kept ∙ durable) ∙ durable_lost es) ∙ ap (λ (j : Log). restarted j (only_durable j.entries)) c.self.view_is
    in let before = c.args.self.now
    in record {
      restarted = record { left = only_durable before.entries; allowed = durable_left before.entries; holds = holds };
      log = holds;
    }
