-- A memory node: what lasts, its stores, and what is gone with the power.
use Rattle.std.specs.Prelude.{ℕ, Bool, true, false, cond, not, ◌&&◌, List, [], map, replicate, is_some, Some, None, Option, slice_index_or}
use Rattle.model.specs.declared.condition.Condition.{Condition}
use Rattle.model.specs.declared.condition.Condition.TheVariants.{Up, Down, Recovering}
use Rattle.model.specs.Numbers.{most_nodes}
use Rattle.model.specs.Items.{Item}
use Rattle.model.specs.Lists.{place, stands, some, only}
use Rattle.model.specs.Cells.{Cell}
use Rattle.model.specs.Ranges.{clashing, writes_byte}
use Rattle.model.specs.Participants.{alone}
use Rattle.model.specs.Journal.{Entry, Journal, empty_journal, restarted, past}
use Rattle.model.specs.Writes.{Stores}

-- a minitransaction in doubt: voted yes here, not yet finished here, power not lost since
pub record Doubt : Type 0 where
  pub tid : ℕ
  pub participants : ℕ
  pub items : List Item  -- all items of the prepare: as long as it is in doubt they are locked

-- an entry that a restart found past the pointer without an outcome
pub record Unresolved : Type 0 where
  pub tid : ℕ
  pub participants : ℕ
  pub agreed : List Bool  -- by node, whether it has replied yes since the restart
  pub resolution : Option Bool  -- what it was resolved as, once it is resolved

-- what a node knows only as long as it has power
pub record Volatile : Type 0 where
  pub condition : Condition
  pub in_doubt : List Doubt
  pub unresolved : List Unresolved
  pub acknowledged : List Bool  -- by node, whether it is known to have the oldest entry durably applied

pub record Node : Type 0 where
  pub stores : Stores
  pub volatile : Volatile

abbrev pub cells_of : Node → List Cell
cells_of n = n.stores.cells

abbrev pub journal_of : Node → Journal
journal_of n = n.stores.journal

-- ## Conditions

abbrev pub is_up : Condition → Bool
is_up Up = true
is_up Down = false
is_up Recovering = false

abbrev pub is_down : Condition → Bool
is_down Up = false
is_down Down = true
is_down Recovering = false

abbrev pub is_recovering : Condition → Bool
is_recovering Up = false
is_recovering Down = false
is_recovering Recovering = true

-- what is known of no node yet
abbrev pub of_none : List Bool
of_none = replicate most_nodes false

-- up or down, with nothing in doubt, nothing unresolved and no acknowledgement
abbrev pub nothing_but : Condition → Volatile
nothing_but c = record { condition = c; in_doubt = []; unresolved = []; acknowledged = of_none }

abbrev pub powerless : Stores → Node
powerless s = record { stores = s; volatile = nothing_but Down }

-- what stands where there is no node
abbrev pub no_node : Node
no_node = powerless (record { cells = []; journal = empty_journal 0 })

-- ## In doubt

abbrev pub doubt_tid : Doubt → ℕ
doubt_tid d = d.tid

abbrev pub no_doubt : Doubt
no_doubt = record { tid = 0; participants = 0; items = [] }

abbrev pub is_in_doubt : Volatile → ℕ → Bool
is_in_doubt v tid = stands doubt_tid tid v.in_doubt

abbrev pub doubt_of : Volatile → ℕ → Doubt
doubt_of v tid = slice_index_or v.in_doubt (place doubt_tid tid v.in_doubt) no_doubt

-- whether an item clashes with one of a minitransaction in doubt
abbrev pub is_locked : Volatile → List Item → Bool
is_locked v is = some (λ (d : Doubt). clashing d.items is) v.in_doubt

-- whether a minitransaction in doubt writes a byte
abbrev pub written_in_doubt : Volatile → ℕ → Bool
written_in_doubt v k = some (λ (d : Doubt). writes_byte d.items k) v.in_doubt

-- ## Unresolved

abbrev pub unresolved_tid : Unresolved → ℕ
unresolved_tid u = u.tid

abbrev pub no_unresolved : Unresolved
no_unresolved = record { tid = 0; participants = 0; agreed = []; resolution = None }

abbrev pub unresolved_of : Volatile → ℕ → Unresolved
unresolved_of v tid = slice_index_or v.unresolved (place unresolved_tid tid v.unresolved) no_unresolved

abbrev pub is_unresolved : Volatile → ℕ → Bool
is_unresolved v tid = stands unresolved_tid tid v.unresolved && not (is_some (unresolved_of v tid).resolution)

abbrev pub some_unresolved : Volatile → Bool
some_unresolved v = some (λ (u : Unresolved). not (is_some u.resolution)) v.unresolved

-- ## A restart

-- past the pointer and without an outcome
abbrev pub is_open : Journal → Entry → Bool
is_open j e = past j e && not (is_some e.outcome)

-- where the node is the only participant its own yes settles it
abbrev pub found : ℕ → Entry → Unresolved
found q e =
    record { tid = e.tid; participants = e.participants; agreed = of_none; resolution = cond (alone e.participants q) (Some true) None }

abbrev pub unresolved_in : ℕ → Journal → List Unresolved
unresolved_in q j = map (found q) (only (is_open j) j.entries)

-- what a loss of power left of a node: its cells, and the outcome of each entry
pub record Left : Type 0 where
  pub cells : List Cell
  pub outcomes : List (Option Bool)

-- where no power was lost
abbrev pub none_left : Left
none_left = record { cells = []; outcomes = [] }

-- node q has power again
abbrev pub recovering : ℕ → Node → Left → Node
recovering q n left =
    let j = restarted (journal_of n) left.outcomes in
    record {
      stores = record { cells = left.cells; journal = j };
      volatile = record { condition = Recovering; in_doubt = []; unresolved = unresolved_in q j; acknowledged = of_none };
    }
