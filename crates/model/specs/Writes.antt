-- Durable edits of one node as values, and what a list of them, or the first few, makes of its stores.
use Rattle.std.specs.Prelude.{◌≡◌, ℕ, Bool, cond, not, ◌&&◌, ◌||◌, List, [], ◌∷◌, take, Some, None, Option, nat_lt}
use Rattle.model.specs.declared.refusal.Refusal.{Refusal}
use Rattle.model.specs.declared.refusal.Refusal.TheVariants.{NoRoom, NotReady, OutOfRange}
use Rattle.model.specs.Numbers.{unlimited}
use Rattle.model.specs.Items.{Item}
use Rattle.model.specs.ItemFormat.{span}
use Rattle.model.specs.Cells.{Cell, within}
use Rattle.model.specs.Ranges.{is_write, address_of, put_item}
use Rattle.model.specs.Journal.{Journal, is_full, is_forced, is_forced_full, has_entry, is_empty, added, forced_in, noted, dropped, flushed, pointed}

-- what lasts of a node: its memory's cells and its journal
pub record Stores : Type 0 where
  pub cells : List Cell
  pub journal : Journal

-- each counts one for a write budget
pub data Write : Type 0 where
  add_entry : ℕ → ℕ → List Item → Write  -- a yes entry: tid, participants, the items to write
  force : ℕ → Write  -- a forced abort
  note : ℕ → Bool → Write  -- the outcome of an entry
  put : Item → Write  -- a write item, into memory
  flush_memory : Write
  flush_journal : Write
  point : ℕ → Write  -- the checkpoint pointer
  drop_oldest : Write

abbrev pub with_cells : Stores → List Cell → Stores
with_cells s cs = record { cells = cs; journal = s.journal }

abbrev pub with_journal : Stores → Journal → Stores
with_journal s j = record { cells = s.cells; journal = j }

-- one write; a flush of memory alters no value
abbrev pub applied : Write → Stores → Stores
applied (add_entry tid ps ws) s = with_journal s (added s.journal tid ps ws)
applied (force tid) s = with_journal s (forced_in s.journal tid)
applied (note tid b) s = with_journal s (noted s.journal tid b)
applied (put i) s = with_cells s (put_item s.cells i)
applied flush_memory s = s
applied flush_journal s = with_journal s (flushed s.journal)
applied (point n) s = with_journal s (pointed s.journal n)
applied drop_oldest s = with_journal s (dropped s.journal)

-- Why a store refuses a write, if it does; what is refused alters nothing. (No rule makes such a write in any history.)
abbrev pub refusal_of : Write → Stores → Option Refusal
refusal_of (add_entry tid ps ws) s = cond (is_full s.journal) (Some NoRoom) None
refusal_of (force tid) s = cond (not (is_forced s.journal tid) && is_forced_full s.journal) (Some NoRoom) None
refusal_of (note tid b) s = cond (has_entry s.journal tid) None (Some NotReady)
refusal_of (put i) s = cond (not (is_write i) || within s.cells (address_of i) (span i)) None (Some OutOfRange)
refusal_of flush_memory s = None
refusal_of flush_journal s = None
refusal_of (point n) s = None
refusal_of drop_oldest s = cond (is_empty s.journal) (Some NotReady) None

abbrev pub then_applied : Option Refusal → Stores → Option Refusal × Stores → Option Refusal × Stores
then_applied None s next = next
then_applied (Some r) s next = (Some r, s)

unfoldable pub applied_all : List Write → Stores → Stores
applied_all [] s = s
applied_all (w ∷ ws) s = applied_all ws (applied w s)

-- the same up to a write that its store refuses, with the refusal
unfoldable pub applied_until : List Write → Stores → Option Refusal × Stores
applied_until [] s = (None, s)
applied_until (w ∷ ws) s = then_applied (refusal_of w s) s (applied_until ws (applied w s))

-- no write of the list is refused when its turn comes
abbrev pub Accepted : List Write → Stores → Type 0
Accepted [] s = Unit {0}
Accepted (w ∷ ws) s = (refusal_of w s ≡ None) × Accepted ws (applied w s)

-- whether power fails in a call with this write budget
abbrev pub fails : ℕ → Bool
fails budget = nat_lt budget unlimited

-- the writes that stand after a call with a write budget: the first of them, as many as it allows
abbrev pub budgeted : ℕ → List Write → List Write
budgeted budget ws = cond (fails budget) (take budget ws) ws
