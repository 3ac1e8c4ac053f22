-- Each turn writes the next item that is selected.
use Rattle.std.proofs.Common.{sym, ◌∙◌}
use Rattle.model.specs.Writes.{put}
use Rattle.records.specs.Meaning.{item_meaning}
use Rattle.nodes.proofs.Budgeting.{puts_none, puts_taken, puts_skipped, remaining_skip, remaining_more, remaining_end}
use Rattle.nodes.proofs.access.put_items.Goals as goal

pub loop-item-preserved : goal.loop-item-preserved
loop-item-preserved g c = (
  tt,
  tt,
  λ j. remaining_skip _ _ _ _ _ _ _ _ _
      (puts_skipped c.args.selection (item_meaning c.in-Some.item) _ _ c.in-Some.ensures.steps (sym c.takes.ensures ∙ c.if-takes.false))
      (c.loop-item.invariant.2 j),
)

pub loop-item-preserved-then-takes : goal.loop-item-preserved-then-takes
loop-item-preserved-then-takes g c = (
  tt,
  tt,
  λ j. remaining_more (put (item_meaning c.in-Some.item)) _ _ _ _ _ _ _ _ _ _ _ _
      (puts_taken c.args.selection (item_meaning c.in-Some.item) _ _ c.in-Some.ensures.steps (sym c.takes.ensures ∙ c.if-takes.true))
      (c.put_counted.ensures j)
      (c.loop-item.invariant.2 j),
)

pub returns : goal.returns
returns g c = λ j. remaining_end _ _ _ _ _ _ _ _ (puts_none c.args.selection _ c.in-None.ensures.steps.0) (c.loop-item.invariant.2 j)
