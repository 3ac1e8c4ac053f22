use Rattle.std.proofs.Common.{vec_items, ap, ◌∙◌, rules, tests}
use Rattle.std.specs.List.{position}
use Rattle.std.proofs.lemmas.Iterator.{YieldsList-from_slice}
use Rattle.std.proofs.lemmas.Iterator.Search.{position_from_yields_List}
use Rattle.line_buffer.proofs.Found.{has_number, found}
use Rattle.line_buffer.proofs.lines.HeldLines.find.Goals as goal

pub returns : goal.returns
returns c =
    found c.args.number (vec_items c.args.self.now.lines) c.position.result
    (position_from_yields_List (has_number c.args.number) _ _ c.position.result c.position.ensures.ran (YieldsList-from_slice _ c.iter.ensures.rest) (λ x b q k. search (rules, tests))
    ∙ ap (position (has_number c.args.number)) c.deref.ensures.value)
