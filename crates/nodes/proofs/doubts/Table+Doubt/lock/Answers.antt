-- The test over the records that stand.
use Rattle.std.proofs.Common.{◌∙◌, rules}
use Rattle.std.proofs.lemmas.Iterator.{YieldsList-from_slice}
use Rattle.std.proofs.lemmas.Iterator.Search.{any_from_yields_List}
use borrow.Author.Tests.{tests}
use Rattle.model.specs.Node.{Doubt as PlainDoubt}
use Rattle.model.specs.Ranges.{clashing}
use Rattle.records.specs.Cursor.{items_meaning}
use Rattle.records.specs.ItemSets.{set_items}
use Rattle.nodes.specs.Standing.{standing}
use Rattle.nodes.specs.Tables.{doubt_meaning}
use Rattle.nodes.specs.declared.doubts.Doubt.{Doubt}
use Rattle.nodes.proofs.Turns.{list_any-map}
use Rattle.nodes.proofs.doubts.«Table+Doubt».lock.Goals as goal

pub returns : goal.returns
returns c =
    let all = standing c.args.self.now in
    let others = items_meaning c.args.items in
    any_from_yields_List (λ (d : Doubt). clashing (set_items d.items) others) _ _ c.any.result c.any.ensures.ran (YieldsList-from_slice all (search rules))
    (λ x b q k. search (rules, tests))
    ∙ list_any-map doubt_meaning (λ (d : PlainDoubt). clashing d.items others) all
