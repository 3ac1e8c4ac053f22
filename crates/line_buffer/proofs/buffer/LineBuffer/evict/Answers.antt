use Rattle.std.proofs.Common.{◌<◌, length, vec_items, ◌∙◌, rules}
use Rattle.line_buffer.proofs.Laid.{laid_same}
use Rattle.line_buffer.proofs.WriteBack.{cell_at_line, cell_at_unheld}
use Rattle.line_buffer.proofs.buffer.LineBuffer.evict.Goals as goal

pub returns-clause-bytes : goal.returns-clause-bytes
returns-clause-bytes g c =
    let ls = vec_items c.args.self.now.held.lines in
    let lt : c.args.i < length ls = search rules in
    c.write_back.ensures.bytes ∙ laid_same _ _ _ _ (λ k. cell_at_line ls c.args.i c.take-line.result k c.args.self.now.held.distinct lt c.take-line.ensures.line)

pub returns-clause-durable : goal.returns-clause-durable
returns-clause-durable g c k o =
    let ls = vec_items c.args.self.now.held.lines in
    let lt : c.args.i < length ls = search rules in
    c.write_back.ensures.durable k (cell_at_unheld ls c.args.i c.take-line.result k c.args.self.now.held.distinct lt c.take-line.ensures.line o)
