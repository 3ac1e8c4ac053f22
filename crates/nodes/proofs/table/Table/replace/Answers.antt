-- Only a place at which something stands is changed.
use Rattle.nodes.proofs.Places.{front_replaced}
use Rattle.nodes.proofs.table.Table.replace.Goals as goal

pub returns-then-place-lt-MOST_ENTRIES : goal.returns-then-place-lt-MOST_ENTRIES
returns-then-place-lt-MOST_ENTRIES g c = front_replaced c.args.self.now.records c.args.self.now.count c.args.place c.args.other
