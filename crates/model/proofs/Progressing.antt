-- A history in which a minitransaction is committed, applied and collected at both nodes.
use Rattle.std.proofs.Common.{List, [], ◌∷◌, ◌++◌, refl, arith}
use Rattle.model.specs.declared.vote.Vote.TheVariants.{Yes}
use Rattle.model.specs.Items.{compare, read, write}
use Rattle.model.specs.Calls.{Call, delivers, decides, settles, queries, collects}
use Rattle.model.specs.Node.{none_left}
use Rattle.model.specs.History.{History}
use Rattle.model.specs.Samples.{two_stores, asks, history_of}
use Rattle.model.specs.Progress.{SomeHistoryProgresses}
use Rattle.model.proofs.Computing.{every_rule}
use Rattle.model.proofs.Sampled.{sample_faithful}

-- up to the finish at both nodes
applying : List Call
applying =
    asks (write 0 5 (6 ∷ []) ∷ compare 0 0 (0 ∷ []) ∷ read 1 20 2 ∷ []) ∷ delivers 0 255 ∷ delivers 0 255 ∷ delivers 0 255 ∷ delivers 0 255
    ∷ decides 1 2 ∷ delivers 0 255 ∷ delivers 0 255 ∷ []

-- both checkpoint, ask one another, and collect
clearing_both : List Call
clearing_both =
    settles 0 255 ∷ settles 1 255 ∷ queries 0 1 ∷ queries 1 0 ∷ delivers 0 255 ∷ delivers 0 255 ∷ delivers 0 255 ∷ delivers 0 255
    ∷ collects 0 255 ∷ collects 1 255 ∷ []

life : History
life = history_of two_stores (applying ++ clearing_both)

pub some_progress : SomeHistoryProgresses
unfolding every_rule life applying clearing_both
some_progress = (
  life,
  record {
    faithful = sample_faithful two_stores (applying ++ clearing_both);
    decision = record { when = 12; buffer = 2; left = none_left; votes = Yes ∷ Yes ∷ []; given = refl };
    unanimous = refl;
    moment = 10;
    finished = (
      record { entry = _; outcome = _; place = 0; stands = refl; noted = refl; about = refl; so = refl; opened = (omega arith, omega arith) },
      record { entry = _; outcome = _; place = 0; stands = refl; noted = refl; about = refl; so = refl; opened = (omega arith, omega arith) },
    );
    collected = (refl, refl);
    before = 18;
    changed = (refl, refl);
    serially = refl;
    in_turn = refl;
  },
)
