-- Those behind the place move up by one.
use Rattle.std.proofs.Common.{◌-◌, take, ap, ◌∙◌, arith}
use Rattle.nodes.proofs.Places.{front_removed}
use Rattle.nodes.proofs.table.Table.remove.Goals as goal

pub returns-then-place-count : goal.returns-then-place-count
returns-then-place-count g c =
    ap (λ all. take (c.len-count.result - 1) all) c.copy_within.ensures.after
    ∙ front_removed c.args.self.now.records c.args.self.now.count c.len-count.result c.args.place (omega (arith, c.len-count.ensures.bound)) (omega arith) c.len-count.ensures.front
