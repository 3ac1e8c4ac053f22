-- The serial run: the committed minitransactions one by one, in the order of their last yes entries,
-- on the memories as they were made.
use Rattle.std.specs.Prelude.{ℕ, Bool, cond, not, ◌&&◌, List, [], ◌∷◌, map, Some, None, Option, ◌==◌, slice_index_or, slice_set}
use Rattle.model.specs.Items.{Item}
use Rattle.model.specs.Lists.{some, every, joined_by}
use Rattle.model.specs.Cells.{Cell}
use Rattle.model.specs.Ranges.{node_of, items_at, holds, read_items, put_item}
use Rattle.model.specs.Participants.{members, every_member, participants_of}
use Rattle.model.specs.Writes.{Stores}
use Rattle.model.specs.Deeds.{Yes}
use Rattle.model.specs.History.{History, yes_log, requests}

-- ## What a minitransaction does, all at once

-- by node, its cells
abbrev pub Memories : Type 0
Memories = List (List Cell)

abbrev pub memory_at : Memories → ℕ → List Cell
memory_at ms q = slice_index_or ms q []

-- whether every comparison is true
abbrev pub compares_true : Memories → List Item → Bool
compares_true ms is = every (λ i. holds (memory_at ms (node_of i)) i) is

-- the bytes read, by node and item
abbrev pub reads_all : Memories → List Item → List ℕ
reads_all ms is = joined_by (λ q. read_items (memory_at ms q) (items_at q is)) (members (participants_of is))

-- the memories after the write items, in item order
unfoldable pub writes_all : Memories → List Item → Memories
writes_all ms [] = ms
writes_all ms (i ∷ is) = writes_all (slice_set ms (node_of i) (put_item (memory_at ms (node_of i)) i)) is

-- ## Which run, and in which order

-- the items of a tid; the first tid is 1
abbrev pub items_of : History → ℕ → List Item
items_of h tid = slice_index_or ([] ∷ requests h.beginning h.events) tid []

abbrev pub voted_yes : List Yes → ℕ → ℕ → Bool
voted_yes log tid q = some (λ (y : Yes). (y.node == q) && y.tid == tid) log

-- each participant has, at some time, written its yes entry
abbrev pub is_committed : (ℕ → List Item) → List Yes → ℕ → Bool
is_committed items log tid = every_member (voted_yes log tid) (participants_of (items tid))

-- The committed tids, the last one first. A minitransaction's turn comes with the yes entry that makes it committed:
-- its last, for no node writes two for one tid (a law of its own).
unfoldable pub turns : (ℕ → List Item) → List Yes → List ℕ
turns items [] = []
turns items (y ∷ log) =
    let older = turns items log in
    cond (is_committed items (y ∷ log) y.tid && not (is_committed items log y.tid)) (y.tid ∷ older) older

-- ## The run

unfoldable pub memories_after : (ℕ → List Item) → Memories → List ℕ → Memories
memories_after items made [] = made
memories_after items made (tid ∷ older) = writes_all (memories_after items made older) (items tid)

-- what a minitransaction found when its turn came
pub record Turn : Type 0 where
  pub compared : Bool  -- whether every comparison was true
  pub reads : List ℕ

unfoldable pub turn_of : (ℕ → List Item) → Memories → List ℕ → ℕ → Option Turn
turn_of items made [] tid = None
turn_of items made (n ∷ older) tid =
    cond (n == tid)
    (let ms = memories_after items made older in Some (record { compared = compares_true ms (items n); reads = reads_all ms (items n) }))
    (turn_of items made older tid)

abbrev pub memories_made : History → Memories
memories_made h = map (λ (s : Stores). s.cells) h.beginning

abbrev pub yes_entries : History → List Yes
yes_entries h = yes_log h.beginning h.events

abbrev pub serial_order : History → List ℕ
serial_order h = turns (items_of h) (yes_entries h)

-- what the run leaves in the memories
abbrev pub serial_memories : History → Memories
serial_memories h = memories_after (items_of h) (memories_made h) (serial_order h)

-- what a tid found in the run, if it is committed
abbrev pub serial_turn : History → ℕ → Option Turn
serial_turn h tid = turn_of (items_of h) (memories_made h) (serial_order h) tid
