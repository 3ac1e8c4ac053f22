-- A node changes that keeps its entries and its pointer: outcomes, bytes, forced aborts and condition.
-- Finish, flushes, loss of power, restart, resume and forcing are such changes.
use Rattle.std.proofs.Common.{◌≡◌, ℕ, true, ◌⊎◌, List, refl, ◌∙◌, inl, inr, ⊎_elim, arith}
use Rattle.std.specs.List.{AllByRecursion as All}
use Rattle.model.proofs.core.Lists.{Some, all_map, all_two}
use Rattle.model.proofs.core.State.{Book, Outcome, Entry, Node, up, State, replay, serial, entry_with_outcome, outcomes, state_with_node}
use Rattle.model.proofs.core.Facts.{OutcomeRight, EntryRight, Extends}
use Rattle.model.proofs.core.Agreement.{Durable, Agreement}
use Rattle.model.proofs.core.NodeChange as change
use Rattle.model.proofs.core.NodeChange.{NodeChange}
use Rattle.model.proofs.core.NodeChangeMemories as changed
use Rattle.model.proofs.core.NodeChangeMemories.{MemoryChange}
use Rattle.model.proofs.core.Outcomes.{outcomes_all, outcomes_some, outcomes_pairs}
use Rattle.model.proofs.core.Replay.{Counts, replay_counts, replay_outcomes}
use Rattle.model.proofs.core.Memories.{Before, Redone, Serving, Memories, Invariant}

pub record KeptEntries {V : Type 0} (B : Book V) (s : State V) (q : ℕ) (k : Node V) : Type 0 where
  pub new_outcome : Entry → Outcome
  pub entries : k.entries ≡ outcomes new_outcome (s.nodes q).entries
  pub pointer_same : k.pointer ≡ (s.nodes q).pointer
  pub given_same : k.given ≡ (s.nodes q).given
  pub forced_kept : (n : ℕ) → (s.nodes q).forced n ≡ true → k.forced n ≡ true
  pub right : All (λ e. OutcomeRight B s e.tid (new_outcome e)) (s.nodes q).entries
  pub durable_kept : All (λ e. Durable e.outcome → Durable (new_outcome e)) (s.nodes q).entries
  -- a byte changes, or counts as written, only where a replay writes it again
  pub bytes : (b : ℕ) → (k.memory b ≡ (s.nodes q).memory b) ⊎ Redone B s q b
  pub written : (b : ℕ) → k.written b ≡ true → ((s.nodes q).written b ≡ true) ⊎ Redone B s q b

module _ {V : Type 0} (B : Book V) (s : State V) (i : Invariant B s) (q : ℕ) (k : Node V) (c : KeptEntries B s q k) where
  abbrev v : Agreement B s
  v = i.agreement

  abbrev w : Memories B s
  w = i.memories

  abbrev es : List Entry
  es = (s.nodes q).entries

  abbrev g : Entry → Outcome
  g = c.new_outcome

  -- a fact of the new entries, from one of the old
  over : (P : Entry → Type 0) → All (λ e. P (entry_with_outcome g e)) es → All P k.entries
  over P h = rw c.entries (outcomes_all g P es h)

  pub node_change : NodeChange B s q k
  node_change = record {
    forced_kept = c.forced_kept;
    pointer_given = omega (arith, c.given_same, c.pointer_same, v.pointer_given q);
    entries_right = over _ (all_two (EntryRight B s q) _ _ (λ e o r. (o.wrote, o.participant, omega (arith, o.low, c.given_same), r)) es (v.entries q) c.right);
    settled_kept = λ n h. over _ (all_map _ _ (λ e f t. omega (arith, f t, c.pointer_same)) es h);
    stands_kept = λ n h. inl (rw c.entries (outcomes_some g (λ e. e.tid ≡ n) es h));
    durable_behind = over _ (all_two _ _ _ (λ e f h l. h (f (omega (arith, c.pointer_same)))) es (v.durable_behind q) c.durable_kept);
  }

  redone' : (b : ℕ) → Redone B s q b → Some (Counts B q k.pointer b s.past.log) k.entries
  redone' b h = rw (c.entries, c.pointer_same) (outcomes_some g (Counts B q (s.nodes q).pointer b s.past.log) es h)

  replayed' : (b : ℕ) → serial B s q b ≡ replay B s.past.log q k.pointer b k.entries (k.memory b)
  replayed' b = rw (c.entries, c.pointer_same, replay_outcomes B q (s.nodes q).pointer b s.past.log g es (k.memory b)) (w.replayed q b ∙ go (c.bytes b))
    where
      go : ((k.memory b ≡ (s.nodes q).memory b) ⊎ Redone B s q b) → replay B s.past.log q (s.nodes q).pointer b es ((s.nodes q).memory b) ≡ replay B s.past.log q (s.nodes q).pointer b es (k.memory b)
      go (inl h) = rw h refl
      go (inr h) = replay_counts B q (s.nodes q).pointer b s.past.log es h ((s.nodes q).memory b) (k.memory b)

  -- a node that is up afterwards has more to show
  module _ (serves : k.condition ≡ up → Serving B s q k) where
    pub memory_change : MemoryChange B s q k
    memory_change = record {
      order = rw c.entries (outcomes_pairs g (Before B s q) es (w.order q));
      replayed = replayed';
      written_redone = λ b h. redone' b (⊎_elim (λ l. w.written_redone q b l) (λ l. l) (c.written b h));
      serving = serves;
    }

    pub kept : Invariant B (state_with_node s q k)
    kept = record { agreement = change.agreement B s v q k node_change; memories = changed.memories B s v w q k node_change memory_change }

  pub kept_extends : Extends B s (state_with_node s q k)
  kept_extends = change.extends B s v q k node_change
