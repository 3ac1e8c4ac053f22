-- The invariant at the start: memories as made, nothing under way, nothing given.
use Rattle.std.proofs.Common.{ℕ, false, [], refl, inl, arith}
use Rattle.std.proofs.lemmas.Bool.{both_ways}
use Rattle.model.proofs.core.State.{Book, Node, node, Condition, State, prepares, logged, serial_run, after, replay}
use Rattle.model.proofs.core.Memories.{Invariant}

-- each node in some condition, with an empty journal
abbrev pub made_node : {V : Type 0} → Condition → (ℕ → V) → Node V
made_node c m = node c m (λ b. false) [] 0 0 (λ n. false)

abbrev pub start : {V : Type 0} → (ℕ → Condition) → (ℕ → ℕ → V) → ℕ → State V
start c M x = record { nodes = λ q. made_node (c q) (M q); network = []; notes = []; next = x; past = record { made = M; log = []; verdicts = [] } }

pub started : {V : Type 0} (B : Book V) (c : ℕ → Condition) (M : ℕ → ℕ → V) (x : ℕ) → Invariant B (start c M x)
unfolding prepares logged serial_run after replay
started B c M x = record {
  agreement = record {
    prepare_spent = λ n q h. absurd (both_ways false refl h);
    prepare_once = λ n q. omega arith;
    yes_once_lem = tt;
    unopened = λ n q _. (refl, refl);
    messages = tt;
    notes = tt;
    verdicts = tt;
    entries = λ q. tt;
    stands = λ n q h. absurd (both_ways false refl h);
    pointer_given = λ q. omega arith;
    durable_behind = λ q. tt;
  };
  memories = record {
    order = λ q. tt;
    replayed = λ q b. refl;
    written_redone = λ q b h. absurd (both_ways false refl h);
    serving = λ q _. record { shows = λ b. inl refl; locks = tt };
    seen_serial = λ n q b h. absurd (both_ways false refl h);
    seen_agrees = λ n q h. absurd (both_ways false refl h);
    legal = tt;
    run_distinct = tt;
    run_committed = λ n e. absurd e;
    committed_run = λ n q h. absurd (both_ways false refl h);
  };
}
