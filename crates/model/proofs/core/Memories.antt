-- The memories against the serial run: order of entries, bytes, and what was seen.
use Rattle.std.proofs.Common.{◌≡◌, ℕ, ◌<◌, true, ◌⊎◌, List, [], ◌∷◌}
use Rattle.model.proofs.core.Lists.{Some, Pairs, has}
use Rattle.model.proofs.core.State.{Book, Node, Entry, absent, up, State, puts, effect, Conflict, replay, after, serial, serial_run, has_voted_yes, saw_at}
use Rattle.model.proofs.core.Facts.{Committed}
use Rattle.model.proofs.core.Agreement.{Agreement, Undecided}
use Rattle.model.proofs.core.Replay.{Counts}

module _ {V : Type 0} (B : Book V) (s : State V) where
  -- entries of one node, the earlier one first; conflicting ones only after the earlier is decided
  abbrev pub Before : ℕ → Entry → Entry → Type 0
  Before q e f = (e.number < f.number) × (e.tid ≡ f.tid → ⊥) × (Conflict B q e.tid f.tid → Undecided B s e.tid → ⊥)

  -- a committed entry without an outcome that writes byte b
  abbrev pub Owes : ℕ → ℕ → Entry → Type 0
  Owes q b e = (e.outcome ≡ absent) × Committed B s e.tid × (puts (effect B e.tid q b) ≡ true)

  -- some committed entry past the pointer writes byte b
  abbrev pub Redone : ℕ → ℕ → Type 0
  Redone q b = Some (Counts B q (s.nodes q).pointer b s.past.log) (s.nodes q).entries

  -- what holds of a node k in the place of q while it is up
  pub record Serving (q : ℕ) (k : Node V) : Type 0 where
    -- its memory is the serial run's, but for what it still owes
    pub shows : (b : ℕ) → (k.memory b ≡ serial B s q b) ⊎ Some (Owes q b) k.entries
    -- what is in doubt conflicts with nothing later
    pub locks : Pairs (λ e f. Conflict B q e.tid f.tid → e.outcome ≡ absent → ⊥) k.entries

  -- what the minitransactions of a run looked at, and what the nodes saw then, is the same
  abbrev pub Legal : List ℕ → Type 0
  Legal [] = Unit {0}
  Legal (n ∷ ns) =
      ((q b : ℕ) → has q (B n).participants ≡ true → (B n).looks q b ≡ true → saw_at s n q b ≡ after B s.past.made ns q b)
      × Legal ns

  pub record Memories : Type 0 where
    pub order : (q : ℕ) → Pairs (Before q) (s.nodes q).entries
    -- the run's byte is what the journal makes of the memory's, in any condition
    pub replayed : (q b : ℕ) → serial B s q b ≡ replay B s.past.log q (s.nodes q).pointer b (s.nodes q).entries ((s.nodes q).memory b)
    pub written_redone : (q b : ℕ) → (s.nodes q).written b ≡ true → Redone q b
    pub serving : (q : ℕ) → (s.nodes q).condition ≡ up → Serving q (s.nodes q)
    -- what an undecided one looked at is still so in the run
    pub seen_serial : (n q b : ℕ) → has_voted_yes s n q ≡ true → Undecided B s n → (B n).looks q b ≡ true → saw_at s n q b ≡ serial B s q b
    pub seen_agrees : (n q : ℕ) → has_voted_yes s n q ≡ true → (B n).agrees q (saw_at s n q) ≡ true
    pub legal : Legal (serial_run B s.past.log)
    -- the run takes each committed one once, and nothing else
    pub run_distinct : Pairs (λ n m. n ≡ m → ⊥) (serial_run B s.past.log)
    pub run_committed : (n : ℕ) → Some (λ m. m ≡ n) (serial_run B s.past.log) → Committed B s n
    pub committed_run : (n q : ℕ) → has_voted_yes s n q ≡ true → Committed B s n → Some (λ m. m ≡ n) (serial_run B s.past.log)

-- the whole invariant
pub record Invariant {V : Type 0} (B : Book V) (s : State V) : Type 0 where
  pub agreement : Agreement B s
  pub memories : Memories B s
