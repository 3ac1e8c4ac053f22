-- Each item has a form, and the test of each is that of the rules.
use Rattle.std.proofs.Common.{◌≡◌, true, ap, ◌∙◌, rules}
use Rattle.std.proofs.lemmas.Iterator.Adapters.{serves_from_places}
use Rattle.std.proofs.lemmas.Iterator.Search.{all_from_yields_List}
use borrow.Author.Tests.{tests}
use Rattle.model.specs.ItemFormat.{is_item}
use Rattle.model.specs.Ranges.{holds}
use Rattle.records.specs.Meaning.{item_meaning}
use Rattle.records.specs.Cursor.{items_meaning}
use Rattle.records.proofs.Taking.{taken_form}
use Rattle.nodes.proofs.Cursors.{items_come, form_at}
use Rattle.nodes.proofs.Turns.{list_all-every}
use Rattle.nodes.proofs.access.all_hold.Goals as goal

pub all-requires-clause-callable : goal.all-requires-clause-callable
all-requires-clause-callable g c =
    let items = c.args.items in
    serves_from_places (items_come items) (λ x q k. search (rules, tests))
    (λ x k l e.
    let form : is_item (item_meaning x) ≡ true = ap is_item e ∙ form_at (items_meaning items) (taken_form items.left items.bytes.now) k l (item_meaning x)
    in search (rules, tests))

pub returns : goal.returns
returns g c =
    let test = holds (g.M.Memory.bytes c.args.memory.now) in
    all_from_yields_List test _ _ c.all.result c.all.ensures.ran (items_come c.args.items) (λ x b q k. search (rules, tests))
    ∙ list_all-every test (items_meaning c.args.items)
