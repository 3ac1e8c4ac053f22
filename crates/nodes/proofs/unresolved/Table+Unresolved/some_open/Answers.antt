-- The test over the records that stand.
use Rattle.std.proofs.Common.{not, is_some, ◌∙◌, rules}
use Rattle.std.proofs.lemmas.Iterator.{YieldsList-from_slice}
use Rattle.std.proofs.lemmas.Iterator.Search.{any_from_yields_List}
use borrow.Author.Tests.{tests}
use Rattle.model.specs.Node.{Unresolved as PlainUnresolved}
use Rattle.nodes.specs.Standing.{standing}
use Rattle.nodes.specs.Tables.{unresolved_meaning}
use Rattle.nodes.specs.declared.unresolved.Unresolved.{Unresolved}
use Rattle.nodes.proofs.Turns.{list_any-map}
use Rattle.nodes.proofs.unresolved.«Table+Unresolved».some_open.Goals as goal

pub returns : goal.returns
returns c =
    let all = standing c.args.self.now in
    any_from_yields_List (λ (u : Unresolved). not (is_some u.resolution)) _ _ c.any.result c.any.ensures.ran (YieldsList-from_slice all (search rules))
    (λ x b q k. search (rules, tests))
    ∙ list_any-map unresolved_meaning (λ (u : PlainUnresolved). not (is_some u.resolution)) all
