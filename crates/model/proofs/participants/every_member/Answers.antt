-- Each node is asked in turn, and the answers of four nodes are those of the participants.
use Rattle.std.proofs.Common.{◌∙◌, refl, rules}
use Rattle.std.proofs.lemmas.Iterator.{YieldsList-from_zip, YieldsList-from_range, YieldsList-from_slice}
use Rattle.std.proofs.lemmas.Iterator.Search.{all_from_yields_List}
use borrow.Author.Tests.{tests}
use Rattle.model.proofs.Members.{asked_of, asked_all}
use Rattle.model.proofs.participants.every_member.Goals as goal

pub returns : goal.returns
returns c =
    all_from_yields_List (asked_of c.args.participants) c.all.new.self _ c.all.result c.all.ensures.ran
    (YieldsList-from_zip (YieldsList-from_range 0 4 4 c.zip.ensures.first refl) (YieldsList-from_slice c.args.holds.now (search rules)))
    (λ x b q k. search (rules, tests))
    ∙ asked_all c.args.participants c.args.holds.now c.told-holds
