use Rattle.std.proofs.Common.{vec_items}
use Rattle.line_buffer.proofs.Put.{put_held}
use Rattle.line_buffer.proofs.buffer.LineBuffer.put.Goals as goal

pub returns-then-has_place-clause-back : goal.returns-then-has_place-clause-back
returns-then-has_place-clause-back g c =
    let p = c.args.piece in
    put_held (vec_items c.args.self.now.held.lines) (g.M.Memory.bytes c.args.self.now.below) p.at p.bytes.now p.inside (vec_items c.hold.new.self.lines) c.hold.ensures.held c.hold.ensures.numbers c.args.last
