-- A step of the cursor follows the step of reading.
use Rattle.std.proofs.Common.{rules, ◌≡◌, ◌<◌, [], sym, refl, ap, ◌∙◌, arith}
use Rattle.model.proofs.ItemSteps.{take_none, take_stuck, take_more}
use Rattle.model.specs.ItemFormat.{take_items}
use Rattle.records.specs.Cursor.{items_meaning}
use Rattle.records.proofs.items.Items.next_item.Goals as goal

pub returns-then-self-eq0 : goal.returns-then-self-eq0
returns-then-self-eq0 c =
    (ap (λ n. take_items n c.args.self.now.bytes.now) c.if-self-eq0.true ∙ take_none _, refl)

pub returns-in_err-item : goal.returns-in_err-item
returns-in_err-item c =
    let none : items_meaning c.args.self.now ≡ [] = take_stuck _ _ (sym c.in_err-item.ensures)
    in search rules

pub returns : goal.returns
returns c =
    let some : 0 < c.args.self.now.left = omega arith
    in take_more _ _ _ _ some (sym c.in_ok-item.ensures)
