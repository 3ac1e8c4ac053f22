-- A list that is well formed is read item by item.
use Rattle.std.proofs.Common.{rules, sym}
use Rattle.model.proofs.ItemSteps.{decoded_take}
use Rattle.records.proofs.items.Items.parse.Goals as goal

pub returns-then-well_formed : goal.returns-then-well_formed
returns-then-well_formed c =
    let whole = decoded_take _ _ (sym c.if-well_formed.ensures)
    in let some = c.in_ok-count.ensures
    in let within = c.if-contains.ensures
    in search rules
