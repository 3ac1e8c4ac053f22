-- The outcome of the first entry with the tid is set.
use Rattle.std.proofs.Common.{◌≡◌, Some, None, Err, vec_items, sym, ap, ◌∙◌, rules, arith}
use Rattle.std.proofs.lemmas.Bool.{cond-true, cond-false}
use Rattle.model.specs.declared.refusal.Refusal.TheVariants.{NotReady}
use Rattle.model.specs.Lists.{place_in}
use Rattle.model.specs.Journal.{Journal as Log, with_entries, with_outcome, entry_of, has_entry, noted, pending}
use Rattle.journal.specs.declared.entry.Entry.{Entry}
use Rattle.journal.specs.Entries.{stored_entry}
use Rattle.journal.specs.Tables.{table_log}
use Rattle.journal.proofs.Tables.{noted_missing, noted_found}
use Rattle.journal.proofs.table.TableJournalJournal.note.Goals as goal

pub returns-in_err-place : goal.returns-in_err-place
returns-in_err-place g c =
    let t = c.self.inside
    in let es = vec_items t.entries
    in let log = table_log es (vec_items t.forced) t.pointer t.highest t.capacity
    in let missing : None ≡ c.find.result = grind arith
    in let refused : c.from_residual.result ≡ Err NotReady = search rules
    in let none = noted_missing es c.args.tid (with_outcome (entry_of log c.args.tid) (Some (pending c.args.commits)))
    (missing ∙ c.find.ensures ∙ ap (place_in (λ (e : Entry). e.promise.tid) c.args.tid) c.as_slice.ensures.value)
    in record {
      answer = refused ∙ sym (cond-false _ _ _ (sym (ap (λ (j : Log). has_entry j c.args.tid) c.self.view_is) ∙ none.0));
      log = sym c.self.view_is ∙ ap (with_entries log) none.1 ∙ ap (λ (j : Log). noted j c.args.tid c.args.commits) c.self.view_is;
    }

pub returns : goal.returns
returns g c =
    let t = c.self.inside
    in let es = vec_items t.entries
    in let log = table_log es (vec_items t.forced) t.pointer t.highest t.capacity
    in let found : Some c.in_ok-place.place ≡ c.find.result = grind arith
    in let there = noted_found es c.args.tid c.in_ok-place.place c.index_mut.result.now _ (Some (pending c.args.commits))
    (found ∙ c.find.ensures ∙ ap (place_in (λ (e : Entry). e.promise.tid) c.args.tid) c.as_slice.ensures.value)
    c.index_mut.ensures.value
    (ap (λ o. with_outcome (stored_entry c.index_mut.result.now) (Some o)) c.pending_outcome.ensures)
    in record {
      answer = sym (cond-true _ _ _ (sym (ap (λ (j : Log). has_entry j c.args.tid) c.self.view_is) ∙ there.0));
      log = ap (with_entries log) there.1 ∙ ap (λ (j : Log). noted j c.args.tid c.args.commits) c.self.view_is;
    }
