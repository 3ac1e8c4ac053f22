-- What items name and what they do to a memory: the bytes they share, comparing, reading, writing.
use Rattle.std.specs.Prelude.{ℕ, ◌+◌, Bool, true, false, ◌&&◌, ◌||◌, List, [], ◌∷◌, nat_eq, nat_le, nat_lt}
use Rattle.model.specs.Items.{Item, compare, read, write}
use Rattle.model.specs.ItemFormat.{span}
use Rattle.model.specs.Lists.{some, every, only, joined_by}
use Rattle.model.specs.Cells.{Cell, read_at, matches_at, written_at}

abbrev pub node_of : Item → ℕ
node_of (compare q a bs) = q
node_of (read q a n) = q
node_of (write q a bs) = q

abbrev pub address_of : Item → ℕ
address_of (compare q a bs) = a
address_of (read q a n) = a
address_of (write q a bs) = a

abbrev pub is_write : Item → Bool
is_write (compare q a bs) = false
is_write (read q a n) = false
is_write (write q a bs) = true

-- the items of one node, in item order
abbrev pub items_at : ℕ → List Item → List Item
items_at q is = only (λ i. nat_eq (node_of i) q) is

abbrev pub writes_in : List Item → List Item
writes_in is = only is_write is

-- ## Shared bytes

-- whether an item names a byte
abbrev pub covers : Item → ℕ → Bool
covers i k = nat_le (address_of i) k && nat_lt k (address_of i + span i)

-- whether two items of one node share a byte
abbrev pub overlap : Item → Item → Bool
overlap i j = nat_lt (address_of i) (address_of j + span j) && nat_lt (address_of j) (address_of i + span i)

-- whether two items of one node must not be under way together: they share a byte, and one of them writes it
abbrev pub clash : Item → Item → Bool
clash i j = (is_write i || is_write j) && overlap i j

abbrev pub clashing : List Item → List Item → Bool
clashing is js = some (λ i. some (λ j. clash i j) js) is

-- whether a byte is written by one of the items
abbrev pub writes_byte : List Item → ℕ → Bool
writes_byte is k = some (λ i. is_write i && covers i k) is

-- ## What items do to one memory

abbrev pub holds : List Cell → Item → Bool
holds cs (compare q a bs) = matches_at cs a bs
holds cs (read q a n) = true
holds cs (write q a bs) = true

-- whether every comparison is true
abbrev pub all_hold : List Cell → List Item → Bool
all_hold cs is = every (holds cs) is

abbrev pub read_item : List Cell → Item → List ℕ
read_item cs (compare q a bs) = []
read_item cs (read q a n) = read_at cs a n
read_item cs (write q a bs) = []

-- the bytes read, in item order
abbrev pub read_items : List Cell → List Item → List ℕ
read_items cs is = joined_by (read_item cs) is

abbrev pub put_item : List Cell → Item → List Cell
put_item cs (compare q a bs) = cs
put_item cs (read q a n) = cs
put_item cs (write q a bs) = written_at cs a bs

-- the memory after the write items, in item order
unfoldable pub put_items : List Cell → List Item → List Cell
put_items cs [] = cs
put_items cs (i ∷ is) = put_items (put_item cs i) is
