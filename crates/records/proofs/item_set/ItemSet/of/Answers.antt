-- Each turn keeps the next item, if it is selected.
use Rattle.std.proofs.Common.{sym, refl, ap, ◌∙◌}
use Rattle.records.specs.Meaning.{item_meaning}
use Rattle.records.specs.Cursor.{items_meaning}
use Rattle.records.specs.ItemSets.{selected}
use Rattle.records.proofs.Taking.{taken_form}
use Rattle.records.proofs.Keeping.{keeping_none, keeping_skip, keeping_room, keeping_more, keeping_full, keeping_all, put_not, put_at}
use Rattle.records.proofs.item_set.ItemSet.of.Goals as goal

pub loop-item-init : goal.loop-item-init
loop-item-init c = (
  tt,
  tt,
  keeping_none (selected c.args.selection) _ _ _ (ap items_meaning c.into_iter-item-iterator.ensures.into_iter_gives)
      (taken_form c.args.items.left c.args.items.bytes.now)
      refl,
)

pub loop-item-preserved-then-not-takes : goal.loop-item-preserved-then-not-takes
loop-item-preserved-then-not-takes c = (
  tt,
  tt,
  keeping_skip (selected c.args.selection) _ _ _ c.loop-item.count c.loop-item.end c.loop-item.bytes (item_meaning c.in-Some.item)
      c.in-Some.ensures.steps
      (sym c.takes.ensures ∙ c.if-not-takes.true)
      c.loop-item.invariant.2,
)

pub returns-then-count-eq-MOST_ITEMS : goal.returns-then-count-eq-MOST_ITEMS
returns-then-count-eq-MOST_ITEMS c =
    keeping_full (selected c.args.selection) _ _ c.loop-item.count c.loop-item.end c.loop-item.bytes c.if-count-eq-MOST_ITEMS.true c.loop-item.invariant.2

pub loop-item-preserved-in_default : goal.loop-item-preserved-in_default
loop-item-preserved-in_default c =
    absurd (put_not _ _ c.in_default.ensures.end
    (keeping_room (selected c.args.selection) _ _ _ c.loop-item.count c.loop-item.end c.loop-item.bytes (item_meaning c.in-Some.item)
    c.in-Some.ensures.steps
    c.if-count-eq-MOST_ITEMS.false
    c.loop-item.invariant.2).1.1)

pub loop-item-preserved : goal.loop-item-preserved
loop-item-preserved c = (
  tt,
  tt,
  keeping_more (selected c.args.selection) _ _ _ c.loop-item.count c.loop-item.end _ c.loop-item.bytes c.put_one.new.buffer
      (item_meaning c.in-Some.item)
      c.in-Some.ensures.steps
      (sym c.takes.ensures ∙ c.if-not-takes.false)
      c.if-count-eq-MOST_ITEMS.false
      (put_at _ _ _ c.in-Some-put_one.ensures.end)
      c.in-Some-put_one.ensures.bytes
      c.loop-item.invariant.2,
)

pub returns-in-None : goal.returns-in-None
returns-in-None c =
    keeping_all (selected c.args.selection) _ _ c.loop-item.count c.loop-item.end c.loop-item.bytes c.in-None.ensures.steps.0 c.loop-item.invariant.2
