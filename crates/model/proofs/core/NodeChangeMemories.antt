-- One node changes and nothing else: what the change has to show for the memories' invariant to stay.
use Rattle.std.proofs.Common.{◌≡◌, ℕ, true, List, [], ◌∷◌}
use Rattle.model.proofs.core.Lists.{update_both, Some, Pairs, pairs_map}
use Rattle.model.proofs.core.State.{Book, Node, up, State, replay, serial, serial_run, state_with_node}
use Rattle.model.proofs.core.Agreement.{Agreement, Undecided}
use Rattle.model.proofs.core.NodeChange.{NodeChange, extends}
use Rattle.model.proofs.core.Replay.{Counts}
use Rattle.model.proofs.core.Memories.{Before, Serving, Legal, Memories}

pub record MemoryChange {V : Type 0} (B : Book V) (s : State V) (q : ℕ) (k : Node V) : Type 0 where
  pub order : Pairs (Before B s q) k.entries
  pub replayed : (b : ℕ) → serial B s q b ≡ replay B s.past.log q k.pointer b k.entries (k.memory b)
  pub written_redone : (b : ℕ) → k.written b ≡ true → Some (Counts B q k.pointer b s.past.log) k.entries
  pub serving : k.condition ≡ up → Serving B s q k

module _ {V : Type 0} (B : Book V) (s : State V) (v : Agreement B s) (w : Memories B s) (q : ℕ) (k : Node V) (g : NodeChange B s q k) (m : MemoryChange B s q k) where
  abbrev t : State V
  t = state_with_node s q k

  undecided_back : (n : ℕ) → Undecided B t n → Undecided B s n
  undecided_back n u = ((λ d. u.0 ((extends B s v q k g).dead n d)), u.1)

  serving' : (p : ℕ) → (t.nodes p).condition ≡ up → Serving B s p (t.nodes p)
  serving' = update_both (λ p k'. k'.condition ≡ up → Serving B s p k') s.nodes q k m.serving (λ p _ o. w.serving p o)

  legal' : (ns : List ℕ) → Legal B s ns → Legal B t ns
  legal' [] l = tt
  legal' (n ∷ ns) l = (l.0, legal' ns l.1)

  pub memories : Memories B t
  memories = record {
    order = λ p. pairs_map (Before B s p) (Before B t p) (λ e f h. (h.0, h.1, λ c u. h.2 c (undecided_back e.tid u))) (t.nodes p).entries
        (update_both (λ p' k'. Pairs (Before B s p') k'.entries) s.nodes q k m.order (λ p' _. w.order p') p);
    replayed = λ p b. update_both (λ p' k'. serial B s p' b ≡ replay B s.past.log p' k'.pointer b k'.entries (k'.memory b)) s.nodes q k (m.replayed b) (λ p' _. w.replayed p' b) p;
    written_redone = λ p b. update_both (λ p' k'. k'.written b ≡ true → Some (Counts B p' k'.pointer b s.past.log) k'.entries) s.nodes q k (m.written_redone b) (λ p' _. w.written_redone p' b) p;
    serving = λ p o. record { shows = (serving' p o).shows; locks = (serving' p o).locks };
    seen_serial = λ n p b y u r. w.seen_serial n p b y (undecided_back n u) r;
    seen_agrees = w.seen_agrees;
    legal = legal' (serial_run B s.past.log) w.legal;
    run_distinct = w.run_distinct;
    run_committed = w.run_committed;
    committed_run = w.committed_run;
  }
