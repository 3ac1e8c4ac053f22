-- The size of the extent.
use Rattle.std.proofs.Common.{rules, ◌≡◌}
use Rattle.std.specs.Option.{option_map}
use Rattle.model.specs.ItemFormat.{list_size}
use Rattle.records.specs.Cursor.{items_meaning}
use Rattle.records.specs.declared.lists.Extent.{Extent}
use Rattle.records.specs.Extents.{list_extent}
use Rattle.records.proofs.Roads.{cursor_road}
use Rattle.records.proofs.Sizing.{extent_size}
use Rattle.records.proofs.lists.list_size.Goals as goal

pub returns : goal.returns
returns c =
    let extent : c.list_extent.result ≡ list_extent (items_meaning c.args.items) = c.list_extent.ensures _ (cursor_road c.args.items).runs
    in let size : option_map (λ (x : Extent). x.size) (list_extent (items_meaning c.args.items)) ≡ list_size (items_meaning c.args.items) = extent_size (items_meaning c.args.items)
    in search rules
