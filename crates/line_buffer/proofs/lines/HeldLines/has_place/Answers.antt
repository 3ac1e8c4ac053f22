use Rattle.std.proofs.Common.{vec_items, sym, ◌∙◌}
use Rattle.line_buffer.proofs.Found.{takes_found}
use Rattle.line_buffer.proofs.lines.HeldLines.has_place.Goals as goal

pub returns-then-is_some : goal.returns-then-is_some
returns-then-is_some c =
    c.if-is_some.true ∙ sym (takes_found c.args.number (vec_items c.args.self.now.lines) c.find.result c.find.ensures (sym c.is_some.ensures ∙ c.if-is_some.true))
