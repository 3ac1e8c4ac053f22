-- What a node stands for.
use Rattle.std.specs.Prelude.{ℕ, List}
use Rattle.model.specs.Journal.{Journal as Log}
use Rattle.model.specs.Node.{Node as PlainNode, Volatile as PlainVolatile}
use Rattle.nodes.specs.declared.state.Volatile.{Volatile}
use Rattle.nodes.specs.declared.state.Node.{Node}
use Rattle.nodes.specs.Budgets.{both}
use Rattle.nodes.specs.Tables.{doubts_meaning, unresolveds_meaning}

abbrev pub volatile_meaning : Volatile → PlainVolatile
volatile_meaning v =
    record {
      condition = v.condition;
      in_doubt = doubts_meaning v.doubts;
      unresolved = unresolveds_meaning v.unresolved;
      acknowledged = v.acknowledged;
    }

abbrev pub node_meaning : {M J P : Type 0} → (M → List ℕ) → (J → Log) → Node M J P → PlainNode
node_meaning bytes log n = record { stores = both (bytes n.memory) (log n.journal); volatile = volatile_meaning n.volatile }
