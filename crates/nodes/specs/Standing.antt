-- What stands in a table.
use Rattle.std.specs.Prelude.{ℕ, List, take, Option}
use Rattle.std.specs.Option.{option_map}
use Rattle.std.specs.List.{slice_get}
use Rattle.model.specs.Lists.{place}
use Rattle.nodes.specs.declared.table.Table.{Table}

-- the records that stand in a table, in order
abbrev pub standing : {T : Type 0} → Table T → List T
standing t = take t.count t.records

-- the first element with a number, with its place, if one has it
abbrev pub found : {T : Type 0} → (T → ℕ) → ℕ → List T → Option (ℕ × T)
found number n xs = option_map (λ x. (place number n xs, x)) (slice_get xs (place number n xs))
