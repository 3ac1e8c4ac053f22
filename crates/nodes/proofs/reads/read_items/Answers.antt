-- Each turn reads one item more.
use Rattle.std.proofs.Common.{◌++◌, length, sym, ap, ◌∙◌, ap₂, arith}
use Rattle.std.proofs.lemmas.Bool.{and_parts}
use Rattle.model.specs.ItemFormat.{are_items}
use Rattle.model.specs.Ranges.{read_items}
use Rattle.model.proofs.ItemLists.{are_more}
use Rattle.records.specs.declared.items.Items.{Items}
use Rattle.records.specs.Meaning.{item_meaning}
use Rattle.records.specs.Cursor.{items_meaning}
use Rattle.records.proofs.Taking.{taken_form}
use Rattle.nodes.proofs.Reading.{reading_more, reading_end}
use Rattle.nodes.proofs.reads.read_items.Goals as goal

pub loop-item-init : goal.loop-item-init
loop-item-init g c =
    let start = c.into_iter-item-iterator.ensures.into_iter_gives in (
      tt,
      tt,
      ap₂ (λ l (it : Items). l ++ read_items (g.M.Memory.bytes c.args.memory.now) (items_meaning it)) c.none-reads.ensures.bytes start,
      omega (arith, c.none-reads.ensures.count, ap (λ (it : Items). length (items_meaning it)) start),
    )

pub read_item-requires : goal.read_item-requires
read_item-requires g c = record {
  room = omega (arith, ap length c.in-Some.ensures.steps, c.loop-item.invariant.3);
  form =
      (and_parts _ _ (sym (are_more (item_meaning c.in-Some.item) (items_meaning c.next.new.self))
      ∙ sym (ap are_items c.in-Some.ensures.steps)
      ∙ taken_form c.loop-item.item-iterator.left c.loop-item.item-iterator.bytes.now)).0;
}

pub loop-item-preserved : goal.loop-item-preserved
loop-item-preserved g c = (
  tt,
  tt,
  reading_more (g.M.Memory.bytes c.args.memory.now) (item_meaning c.in-Some.item) _ _ _ _ _ c.in-Some.ensures.steps c.loop-item.invariant.2 c.read_item.ensures.bytes,
  omega (arith, ap length c.in-Some.ensures.steps, c.loop-item.invariant.3, c.read_item.ensures.count),
)

pub returns : goal.returns
returns g c = record {
  bytes = reading_end (g.M.Memory.bytes c.args.memory.now) _ _ _ c.in-None.ensures.steps.0 c.loop-item.invariant.2;
  count = omega (arith, c.loop-item.invariant.3);
}
