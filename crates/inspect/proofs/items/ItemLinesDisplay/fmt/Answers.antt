-- Each turn writes the next item.
use Rattle.std.proofs.Common.{◌++◌, sym, ap, ◌∙◌, append_assoc, rules}
use Rattle.std.proofs.Output.{has_written_append}
use Rattle.records.specs.Meaning.{item_meaning}
use Rattle.inspect.specs.Words.{item_text, items_text}
use Rattle.inspect.proofs.items.ItemLinesDisplay.fmt.Goals as goal

pub loop-item-preserved : goal.loop-item-preserved
loop-item-preserved g c plain =
    let before = c.loop-item.invariant plain
    in let line = item_text (item_meaning c.in-Some.item)
    in (
      before.0 ++ line,
      has_written_append _ _ _ _ _ _ before.1 (search rules),
      append_assoc before.0 line _ ∙ ap (λ left. before.0 ++ items_text left) (sym c.in-Some.ensures.steps) ∙ before.2,
    )
