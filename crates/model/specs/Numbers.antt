-- The bounds of a cluster, each named once.
use Rattle.std.specs.Prelude.{ℕ}

-- nodes of a cluster
abbrev pub most_nodes : ℕ
most_nodes = 4

-- messages under way
abbrev pub most_messages : ℕ
most_messages = 32

-- coordinators that stand at a time
abbrev pub most_coordinators : ℕ
most_coordinators = 8

-- recoveries that stand at a time
abbrev pub most_recoveries : ℕ
most_recoveries = 4

-- forced aborts of one journal
abbrev pub most_forced : ℕ
most_forced = 64

-- entries of one journal
abbrev pub most_entries : ℕ
most_entries = 16

-- bytes of one memory
abbrev pub most_bytes : ℕ
most_bytes = 4096

-- the last tid, recovery number and running number that can be given
abbrev pub last_number : ℕ
last_number = 65535

-- items of one item list
abbrev pub most_items : ℕ
most_items = 8

-- bytes that one item compares, reads or writes
abbrev pub longest_item : ℕ
longest_item = 16

-- bytes that one vote carries
abbrev pub most_reads : ℕ
most_reads = 128

-- the write budget of a call in which power does not fail
abbrev pub unlimited : ℕ
unlimited = 255
