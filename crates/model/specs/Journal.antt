-- The journal of a node: its yes entries with their outcomes, its forced aborts and its checkpoint pointer,
-- and what each edit makes of it.
use Rattle.std.specs.Prelude.{ℕ, ◌+◌, Bool, true, false, cond, not, ◌&&◌, ◌||◌, List, [], ◌∷◌, ◌++◌, map, length, drop, Some, None, Option, ◌==◌, nat_le, nat_lt, slice_index_or, slice_set}
use Rattle.std.specs.Option.{option_map}
use Rattle.model.specs.declared.outcome.Outcome.{Outcome}
use Rattle.model.specs.Numbers.{most_forced, most_entries, last_number}
use Rattle.model.specs.Items.{Item}
use Rattle.model.specs.Lists.{place, stands, among}

-- a yes vote with what it promised: to write these items if the minitransaction is committed
pub record Entry : Type 0 where
  pub running : ℕ  -- the entry's number in its journal
  pub tid : ℕ
  pub participants : ℕ
  pub writes : List Item  -- the write items of this node
  pub outcome : Option Outcome

pub record Journal : Type 0 where
  pub entries : List Entry  -- oldest first
  pub forced : List ℕ  -- tids on which this node will never vote yes
  pub pointer : ℕ  -- up to this running number memory and outcomes are durable
  pub highest : ℕ  -- the last running number given
  pub capacity : ℕ  -- entries that it has room for; 0 for a journal whose size does not suffice

-- ## What is asked of a journal

abbrev pub tid_of : Entry → ℕ
tid_of e = e.tid

-- what stands where there is no entry
abbrev pub no_entry : Entry
no_entry = record { running = 0; tid = 0; participants = 0; writes = []; outcome = None }

abbrev pub has_entry : Journal → ℕ → Bool
has_entry j tid = stands tid_of tid j.entries

-- the first entry of a tid
abbrev pub entry_of : Journal → ℕ → Entry
entry_of j tid = slice_index_or j.entries (place tid_of tid j.entries) no_entry

abbrev pub is_empty : Journal → Bool
is_empty j = length j.entries == 0

abbrev pub oldest : Journal → Entry
oldest j = slice_index_or j.entries 0 no_entry

-- whether an entry lies past the checkpoint pointer
abbrev pub past : Journal → Entry → Bool
past j e = nat_lt j.pointer e.running

abbrev pub is_full : Journal → Bool
is_full j = nat_le j.capacity (length j.entries) || nat_le last_number j.highest

abbrev pub is_forced : Journal → ℕ → Bool
is_forced j tid = among tid j.forced

-- Whether the node may still vote yes on a tid. Whatever forbids that for good enters here and nowhere else.
abbrev pub may_vote_yes : Journal → ℕ → Bool
may_vote_yes j tid = not (is_forced j tid)

-- whether there is no room for another forced abort
abbrev pub is_forced_full : Journal → Bool
is_forced_full j = nat_le most_forced (length j.forced) || j.capacity == 0

-- whether an outcome is noted, and says this
abbrev pub says : Bool → Option Outcome → Bool
says b None = false
says b (Some o) = cond b o.commits (not o.commits)

-- ## Making

-- an empty journal, as it is made
abbrev pub empty_journal : ℕ → Journal
empty_journal capacity = record { entries = []; forced = []; pointer = 0; highest = 0; capacity = capacity }

abbrev pub is_as_made : Journal → Bool
is_as_made j =
    is_empty j && length j.forced == 0 && j.pointer == 0 && j.highest == 0
    && nat_le 1 j.capacity && nat_le j.capacity most_entries

-- ## Edits. One that the journal refuses alters nothing.

abbrev pub with_entries : Journal → List Entry → Journal
with_entries j es =
    record { entries = es; forced = j.forced; pointer = j.pointer; highest = j.highest; capacity = j.capacity }

abbrev pub with_outcome : Entry → Option Outcome → Entry
with_outcome e o =
    record { running = e.running; tid = e.tid; participants = e.participants; writes = e.writes; outcome = o }

abbrev pub next_entry : Journal → ℕ → ℕ → List Item → Entry
next_entry j tid ps ws =
    record { running = j.highest + 1; tid = tid; participants = ps; writes = ws; outcome = None }

-- a yes entry at the end, with the next running number
abbrev pub added : Journal → ℕ → ℕ → List Item → Journal
added j tid ps ws =
    cond (is_full j) j
    (record {
      entries = j.entries ++ next_entry j tid ps ws ∷ [];
      forced = j.forced;
      pointer = j.pointer;
      highest = j.highest + 1;
      capacity = j.capacity;
    })

-- a forced abort; one that stands already is not added again
abbrev pub forced_in : Journal → ℕ → Journal
forced_in j tid =
    cond (is_forced j tid || is_forced_full j) j
    (record {
      entries = j.entries;
      forced = j.forced ++ tid ∷ [];
      pointer = j.pointer;
      highest = j.highest;
      capacity = j.capacity;
    })

abbrev pub pending : Bool → Outcome
pending b = record { commits = b; durable = false }

abbrev pub durably : Bool → Outcome
durably b = record { commits = b; durable = true }

-- an outcome for the first entry of a tid, pending until the next flush
abbrev pub noted : Journal → ℕ → Bool → Journal
noted j tid b =
    with_entries j (slice_set j.entries (place tid_of tid j.entries) (with_outcome (entry_of j tid) (Some (pending b))))

-- without the oldest entry
abbrev pub dropped : Journal → Journal
dropped j = with_entries j (drop 1 j.entries)

abbrev pub made_durable : Entry → Entry
made_durable e = with_outcome e (option_map (λ (o : Outcome). durably o.commits) e.outcome)

-- every outcome is durable
abbrev pub flushed : Journal → Journal
flushed j = with_entries j (map made_durable j.entries)

abbrev pub pointed : Journal → ℕ → Journal
pointed j n =
    record { entries = j.entries; forced = j.forced; pointer = n; highest = j.highest; capacity = j.capacity }

-- ## A restart, given the outcomes that the loss of power left, one for each entry

unfoldable pub outcomes_left : List Entry → List (Option Bool) → List Entry
outcomes_left [] left = []
outcomes_left (e ∷ es) [] = with_outcome e None ∷ outcomes_left es []
outcomes_left (e ∷ es) (o ∷ left) = with_outcome e (option_map durably o) ∷ outcomes_left es left

abbrev pub restarted : Journal → List (Option Bool) → Journal
restarted j left = with_entries j (outcomes_left j.entries left)
