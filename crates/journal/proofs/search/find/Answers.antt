-- The place is the position of the number.
use Rattle.std.proofs.Common.{◌≡◌, eqb, sym, ◌∙◌, rules}
use Rattle.std.proofs.lemmas.Iterator.{YieldsList-from_slice}
use Rattle.std.proofs.lemmas.Iterator.Search.{position_from_yields_List}
use Rattle.model.specs.Lists.{place_in}
use borrow.Author.Tests.{tests}
use Rattle.journal.proofs.Looking.{place_in-position}
use Rattle.journal.proofs.search.find.Goals as goal

pub returns : goal.returns
returns g c =
    let number = g.T.Numbered.numbered
    in let xs = c.args.elements.now
    in let here : c.position.result ≡ place_in number c.args.wanted xs =
    position_from_yields_List (λ x. eqb (number x) c.args.wanted) _ _ _ c.position.ensures.ran (YieldsList-from_slice xs cc)
    (λ x b q k. search (rules, tests)) ∙
    sym (place_in-position number c.args.wanted xs)
    in search rules
