-- The two moves that change more than one node's stores, on the whole invariant.
use Rattle.std.proofs.Common.{◌≡◌, ℕ, List}
use Rattle.model.proofs.core.State.{Book, up, Claim, Verdict, State, state_with_network, accept}
use Rattle.model.proofs.core.Facts.{Extends}
use Rattle.model.proofs.core.YesEntry as yes
use Rattle.model.proofs.core.YesEntry.{CanVoteYes}
use Rattle.model.proofs.core.YesEntryMemories as yes_memories
use Rattle.model.proofs.core.NetworkChange as network
use Rattle.model.proofs.core.NetworkChange.{NetworkChange}
use Rattle.model.proofs.core.Memories.{Invariant}

module _ {V : Type 0} (B : Book V) (s : State V) (k : Invariant B s) where
  pub accepted : (i n q : ℕ) → CanVoteYes B s i n q → (s.nodes q).condition ≡ up → Invariant B (accept s i n q)
  accepted i n q g u = record { agreement = yes.agreement B s k.agreement i n q g; memories = yes_memories.memories B s k.agreement k.memories i n q g u }

  pub accepted_extends : (i n q : ℕ) → CanVoteYes B s i n q → Extends B s (accept s i n q)
  accepted_extends i n q g = yes.extends B s k.agreement i n q g

  pub network_changed : (ms ns : List Claim) (x : ℕ) (vs : List Verdict) → NetworkChange B s ms ns x vs → Invariant B (state_with_network s ms ns x vs)
  network_changed ms ns x vs g = record { agreement = network.agreement B s k.agreement ms ns x vs g; memories = network.memories B s k.agreement ms ns x vs g k.memories }

  pub network_extends : (ms ns : List Claim) (x : ℕ) (vs : List Verdict) → NetworkChange B s ms ns x vs → Extends B s (state_with_network s ms ns x vs)
  network_extends ms ns x vs g = network.extends B s k.agreement ms ns x vs g
