-- The test over the items to come.
use Rattle.std.proofs.Common.{◌∙◌, rules}
use Rattle.std.proofs.lemmas.Iterator.Search.{any_from_yields_List}
use borrow.Author.Tests.{tests}
use Rattle.model.specs.Ranges.{clash}
use Rattle.records.specs.Meaning.{item_meaning}
use Rattle.records.specs.Cursor.{items_meaning}
use Rattle.nodes.proofs.Cursors.{items_come}
use Rattle.nodes.proofs.Turns.{list_any-some}
use Rattle.nodes.proofs.locks.clashes_with.Goals as goal

pub returns : goal.returns
returns c =
    any_from_yields_List (λ j. clash (item_meaning c.args.item.now) j) _ _ _ c.any.ensures.ran (items_come c.args.others)
    (λ x b q k. search (rules, tests)) ∙
    list_any-some (λ j. clash (item_meaning c.args.item.now) j) (items_meaning c.args.others)
