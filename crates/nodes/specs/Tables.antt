-- What the tables of a node stand for.
use Rattle.std.specs.Prelude.{ℕ, cond, List, map, Some, None, Option, slice_index_or}
use Rattle.model.specs.Lists.{place, stands}
use Rattle.model.specs.Node.{Doubt as PlainDoubt, Unresolved as PlainUnresolved}
use Rattle.records.specs.ItemSets.{set_items}
use Rattle.nodes.specs.declared.doubts.Doubt.{Doubt}
use Rattle.nodes.specs.declared.unresolved.Unresolved.{Unresolved}
use Rattle.nodes.specs.declared.table.Table.{Table}
use Rattle.nodes.specs.Standing.{standing}

abbrev pub doubt_meaning : Doubt → PlainDoubt
doubt_meaning d = record { tid = d.tid; participants = d.participants; items = set_items d.items }

-- those in doubt, in order
abbrev pub doubts_meaning : Table Doubt → List PlainDoubt
doubts_meaning t = map doubt_meaning (standing t)

-- ## Unresolved entries

abbrev pub unresolved_meaning : Unresolved → PlainUnresolved
unresolved_meaning u = record { tid = u.tid; participants = u.participants; agreed = u.agreed; resolution = u.resolution }

-- the unresolved entries, in order
abbrev pub unresolveds_meaning : Table Unresolved → List PlainUnresolved
unresolveds_meaning t = map unresolved_meaning (standing t)

-- ## Looking up by number

abbrev pub placed : {X Y : Type 0} → (X → Y) → ℕ × X → ℕ × Y
placed f (i, x) = (i, f x)

-- the first element with a number, with its place, if one has it; the element given stands for none
abbrev pub found_in : {X : Type 0} → (X → ℕ) → X → ℕ → List X → Option (ℕ × X)
found_in number none n xs = cond (stands number n xs) (Some (place number n xs, slice_index_or xs (place number n xs) none)) None
