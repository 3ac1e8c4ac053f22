-- What a table journal stands for.
use Rattle.std.specs.Prelude.{ℕ, cond, ◌&&◌, List, map, nat_le}
use Rattle.model.specs.Journal.{Journal as Log}
use Rattle.model.specs.Numbers.{most_entries, most_forced}
use Rattle.journal.specs.declared.entry.Entry.{Entry}
use Rattle.journal.specs.Entries.{stored_entry}

abbrev pub table_log : List Entry → List ℕ → ℕ → ℕ → ℕ → Log
table_log es forced pointer highest capacity =
    record { entries = map stored_entry es; forced = forced; pointer = pointer; highest = highest; capacity = capacity }

-- the capacity that was asked for, if it is one and the tables have a place for each entry and each forced abort; else none
abbrev pub usable : ℕ → ℕ → ℕ → ℕ
usable wanted places forced_places =
    cond (nat_le 1 wanted && nat_le wanted most_entries && nat_le wanted places && nat_le most_forced forced_places) wanted 0
