-- There are no more items than the cursor says.
use Rattle.std.proofs.Common.{◌≡◌, length, inl, arith}
use Rattle.std.proofs.lemmas.Iterator.Consumers.{count_from_yields_List}
use Rattle.model.proofs.ItemSteps.{take_bound}
use Rattle.records.specs.Cursor.{items_meaning}
use Rattle.records.proofs.Roads.{cursor_road}
use Rattle.records.proofs.items.Items.len.Goals as goal

pub count-requires-clause-fits : goal.count-requires-clause-fits
count-requires-clause-fits c = inl (omega (arith, take_bound c.args.self.left c.args.self.bytes.now))

pub returns : goal.returns
returns c =
    let counted : c.count.result ≡ length (items_meaning c.args.self) = count_from_yields_List c.args.self c.count.result c.count.ensures.ran (cursor_road c.args.self)
    in omega (arith, counted)
