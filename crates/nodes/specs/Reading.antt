-- The bytes that a node has read for a vote.
use Rattle.std.specs.Prelude.{ℕ, List, take}
use Rattle.nodes.specs.declared.reads.Reads.{Reads}

abbrev pub read_bytes : Reads → List ℕ
read_bytes r = take r.length r.bytes
