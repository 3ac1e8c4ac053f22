-- Every history that can be obeys the laws.
use Rattle.std.proofs.Common.{◌≡◌, true, ⊎_elim}
use Rattle.std.proofs.lemmas.Bool.{cases_Bool}
use Rattle.model.specs.Making.{is_well_made}
use Rattle.model.specs.History.{History, Faithful}
use Rattle.model.specs.Laws.{Laws, EveryHistoryIsLawful}
use Rattle.model.proofs.bridge.LawsRead.{finished_alike, compares_true, yes_once}
use Rattle.model.proofs.bridge.LawsDecided.{finished_as_decided, decided_alike, reads_as_given}
use Rattle.model.proofs.bridge.LawsShown.{shows_serial}
use Rattle.model.proofs.bridge.LawsUnmade.{unmade_lawful}

made_lawful : (h : History) → is_well_made h.beginning ≡ true → Faithful h → Laws h
made_lawful h good faithful =
    record {
      finished_alike = finished_alike h good faithful;
      finished_as_decided = finished_as_decided h good faithful;
      decided_alike = decided_alike h good faithful;
      shows_serial = shows_serial h good faithful;
      compares_true = compares_true h good faithful;
      reads_as_given = reads_as_given h good faithful;
      yes_once = yes_once h good faithful;
    }

pub every_history_lawful : EveryHistoryIsLawful
every_history_lawful h faithful =
    ⊎_elim (λ good. made_lawful h good faithful) (λ bad. unmade_lawful h bad faithful) (cases_Bool (is_well_made h.beginning))
