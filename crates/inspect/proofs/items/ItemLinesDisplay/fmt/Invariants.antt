-- What is written and what the items to come say make up the whole.
use Rattle.std.proofs.Common.{◌≡◌, ℕ, List, ◌++◌}
use Rattle.std.specs.Fmt.{HasWritten, IsPlainFormatter}
use Rattle.records.specs.Cursor.{items_meaning}
use Rattle.inspect.specs.Words.{items_text}
use Rattle.inspect.proofs.items.ItemLinesDisplay.fmt.Given as goal

abbrev pub invariant-loop-item : goal.invariant-loop-item
invariant-loop-item g l =
    IsPlainFormatter l.initial.f →
    ((said : List ℕ) × HasWritten g.W.Write.write_str_gives l.initial.f said l.f
    × (said ++ items_text (items_meaning l.item-iterator) ≡ items_text (items_meaning l.initial.item-iterator)))
