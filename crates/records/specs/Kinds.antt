-- The kinds of items, and what a record has of an item besides its numbers.
use Rattle.std.specs.Prelude.{ℕ, cond, List, [], Some, None, Option, ◌==◌}
use Rattle.model.specs.Items.{Item as PlainItem, compare, read, write}
use Rattle.records.specs.declared.item.ItemKind.{ItemKind}
use Rattle.records.specs.declared.item.ItemKind.TheVariants.{Compare, Read, Write}

abbrev pub kind_number : ItemKind → ℕ
kind_number Compare = 1
kind_number Read = 2
kind_number Write = 3

-- the kind that a number stands for
abbrev pub kind_numbered : ℕ → Option ItemKind
kind_numbered n = cond (n == 1) (Some Compare) (cond (n == 2) (Some Read) (cond (n == 3) (Some Write) None))

abbrev pub kind_of : PlainItem → ItemKind
kind_of (compare n a ds) = Compare
kind_of (read n a l) = Read
kind_of (write n a ds) = Write

-- the bytes behind an item's fields
abbrev pub data_of : PlainItem → List ℕ
data_of (compare n a ds) = ds
data_of (read n a l) = []
data_of (write n a ds) = ds
