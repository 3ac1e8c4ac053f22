-- Each turn counts the next item and adds its size.
use Rattle.std.proofs.Common.{◌∙◌, arith}
use Rattle.records.specs.Meaning.{item_meaning}
use Rattle.records.proofs.Sizing.{size_bound, counting_more, counting_stuck, counting_empty, counting_all}
use Rattle.records.proofs.lists.list_extent.Goals as goal

pub returns-in_err-size : goal.returns-in_err-size
returns-in_err-size g c =
    λ is y. c.from_residual.ensures ∙ counting_stuck g.I.Iterator.next_gives _ _ _ _ _ is c.in-Some.ensures.steps c.in_err-size.ensures (c.loop-item.invariant.4 is y)

pub loop-item-preserved : goal.loop-item-preserved
loop-item-preserved g c =
    let bound = size_bound (item_meaning c.in-Some.item) _ c.in_ok-size.ensures
    in let goes = c.in-Some.ensures.goes.on c.loop-item.invariant.1
    in (
      goes.0,
      goes.1,
      omega (arith, bound, c.loop-item.invariant.2),
      omega (arith, c.loop-item.invariant.3),
      λ is y. counting_more g.I.Iterator.next_gives _ _ _ _ _ _ is c.in-Some.ensures.steps c.in_ok-size.ensures (c.loop-item.invariant.4 is y),
    )

pub returns-then-count-eq0 : goal.returns-then-count-eq0
returns-then-count-eq0 g c =
    λ is y. counting_empty g.I.Iterator.next_gives _ _ _ _ is c.in-None.ensures.steps c.if-count-eq0.true (c.loop-item.invariant.4 is y)

pub returns-else-count-eq0 : goal.returns-else-count-eq0
returns-else-count-eq0 g c =
    λ is y. counting_all g.I.Iterator.next_gives _ _ _ _ is c.in-None.ensures.steps (omega arith) c.loop-item.invariant.3 (c.loop-item.invariant.4 is y)
