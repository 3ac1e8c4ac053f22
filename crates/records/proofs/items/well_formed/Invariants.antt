-- What is left can be read exactly if the whole can.
use Rattle.std.proofs.Common.{◌≡◌, ◌-◌, is_some}
use Rattle.model.specs.ItemFormat.{decode_items}
use Rattle.records.proofs.items.well_formed.Given as goal

abbrev pub invariant-loop-item : goal.invariant-loop-item
invariant-loop-item l = is_some (decode_items (l.count - l._item) l.rest) ≡ is_some (decode_items l.count l.bytes)
