-- The flush saves the outcome from the loss of power.
use Rattle.std.proofs.Common.{◌≡◌, ℕ, false, sym, ap, ◌∙◌, arith}
use Rattle.std.proofs.lemmas.Bool.{cond-true, cond-false, not-true}
use Rattle.model.specs.Journal.{Journal as Log, is_full, is_empty, has_entry, noted, flushed, dropped}
use Rattle.records.specs.ItemSets.{set_items}
use Rattle.journal.specs.Entries.{promised}
use Rattle.journal.proofs.Flushing.{restart_flushed, added_stands, added_not_empty}
use Rattle.journal.proofs.retiring.enter_and_retire.Goals as goal

pub returns-in_err-note : goal.returns-in_err-note
returns-in_err-note g c =
    let j = g.J.Journal.log c.args.journal.now
    in let p = c.args.promise.now
    in let room : is_full j ≡ false = not-true _ (sym c.in_ok-add.ensures.answer)
    in let there = ap (λ (k : Log). has_entry k p.tid) c.add.ensures.log ∙ added_stands j p.tid p.participants _ room
    in let clash = c.in_err-note.ensures.answer ∙ cond-true _ _ _ there
    in let z : ◌≡◌ {A = ℕ} 0 1 = cc
    in absurd (omega arith)

pub returns : goal.returns
returns g c =
    let log = g.J.Journal.log
    in let j = log c.args.journal.now
    in let p = c.args.promise.now
    in let ws = set_items p.writes
    in let b = c.args.commits
    in let room : is_full j ≡ false = not-true _ (sym c.in_ok-add.ensures.answer)
    in let done : log c.note.new.self ≡ noted (promised j p) p.tid b =
    c.note.ensures.log ∙ ap (λ (k : Log). noted k p.tid b) c.add.ensures.log
    in let stays : log c.restart.new.self ≡ flushed (noted (promised j p) p.tid b) =
    restart_flushed _ _ _ (c.flush.ensures ∙ ap flushed done) c.restart.ensures
    in record {
      answer =
          c.drop_oldest.ensures.answer ∙
          cond-false _ _ _ (ap is_empty stays ∙ added_not_empty j p.tid p.participants ws b room) ∙
          sym (cond-false _ _ _ room);
      log = c.drop_oldest.ensures.log ∙ ap dropped stays ∙ sym (cond-false _ _ _ room);
    }
