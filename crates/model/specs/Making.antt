-- Making a cluster of a group of nodes.
use Rattle.std.specs.Prelude.{Bool, cond, ◌&&◌, List, [], map, length, nat_le}
use Rattle.model.specs.declared.condition.Condition.TheVariants.{Up, Down}
use Rattle.model.specs.Numbers.{most_nodes}
use Rattle.model.specs.Lists.{every}
use Rattle.model.specs.Journal.{is_as_made}
use Rattle.model.specs.Writes.{Stores}
use Rattle.model.specs.Node.{nothing_but}
use Rattle.model.specs.Cluster.{Cluster}

-- a group of at most four nodes, each with its journal as made
abbrev pub is_well_made : List Stores → Bool
is_well_made ss = nat_le (length ss) most_nodes && every (λ (s : Stores). is_as_made s.journal) ss

-- Each memory is flushed, which alters no value, and every node is up.
-- Otherwise the nodes are down, and the cluster refuses every call.
unfoldable pub making : List Stores → Cluster
making ss =
    let good = is_well_made ss in
    record {
      well_made = good;
      nodes = map (λ (s : Stores). record { stores = s; volatile = nothing_but (cond good Up Down) }) ss;
      network = [];
      coordinators = [];
      recoveries = [];
      last_tid = 0;
      last_recovery = 0;
    }
