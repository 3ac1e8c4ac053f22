-- The loop follows the steps of reading.
use Rattle.std.proofs.Common.{◌≡◌, ◌+◌, ◌-◌, ◌<◌, is_some, sym, ap, ◌∙◌, arith}
use Rattle.model.proofs.ItemSteps.{decode_none, decode_stuck, decode_more, mapped_is_some}
use Rattle.model.specs.ItemFormat.{decode_items}
use Rattle.records.proofs.items.well_formed.Goals as goal

pub returns-in_default : goal.returns-in_default
returns-in_default c =
    let some : 0 < c.args.count - c.loop-item._item = omega arith
    in sym (ap is_some (decode_stuck _ _ some (sym c.in_default.ensures))) ∙ c.loop-item.invariant

pub loop-item-preserved : goal.loop-item-preserved
loop-item-preserved c =
    let some : 0 < c.args.count - c.loop-item._item = omega arith
    in let next : c.args.count - (c.loop-item._item + 1) ≡ c.args.count - c.loop-item._item - 1 = omega arith
    in ap (λ n. is_some (decode_items n c.in-Some.after.now)) next ∙
    sym (mapped_is_some _ _) ∙
    sym (ap is_some (decode_more _ _ _ _ some (sym c.in-Some.ensures))) ∙ c.loop-item.invariant

pub returns : goal.returns
returns c =
    let none : c.args.count - c.loop-item._item ≡ 0 = omega arith
    in c.is_empty.ensures ∙
    sym (decode_none _) ∙
    ap (λ n. is_some (decode_items n c.loop-item.rest.now)) (sym none) ∙ c.loop-item.invariant
