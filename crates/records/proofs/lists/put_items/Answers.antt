-- Each turn puts the next item behind the last one.
use Rattle.std.proofs.Common.{arith}
use Rattle.records.proofs.Putting.{fit_first, fit_rest, putting_more, putting_all}
use Rattle.records.proofs.lists.put_items.Goals as goal

pub put_item-end-requires : goal.put_item-end-requires
put_item-end-requires g c =
    let first = fit_first g.I.Iterator.next_gives _ _ _ _ _ c.in-Some.ensures.steps c.loop-item.invariant.2
    in record { item_value = first.0; item_in_bounds = first.1 }

pub loop-item-preserved : goal.loop-item-preserved
loop-item-preserved g c =
    let steps = c.in-Some.ensures.steps
    in let goes = c.in-Some.ensures.goes.on c.loop-item.invariant.1
    in let fit = c.loop-item.invariant.2
    in let fits = fit_first g.I.Iterator.next_gives _ _ _ _ _ steps fit
    in let put = c.put_item-end.ensures
    in (
      goes.0,
      goes.1,
      fit_rest g.I.Iterator.next_gives _ _ _ _ _ _ _ steps put.end (omega arith) fit,
      λ is y. putting_more g.I.Iterator.next_gives _ _ _ _ _ _ _ _ _ is steps (omega (arith, fits.1)) put.end put.bytes (c.loop-item.invariant.3 is y),
    )

pub returns : goal.returns
returns g c =
    λ is y. putting_all g.I.Iterator.next_gives _ _ _ _ _ _ is c.in-None.ensures.steps (c.loop-item.invariant.3 is y)
