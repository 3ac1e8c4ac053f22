-- A finish, whole, at a node that stays up: the outcome is noted, and on yes the write items are written.
use Rattle.std.proofs.Common.{◌≡◌, ℕ, Bool, true, false, cond, ◌||◌, ◌⊎◌, List, [], ◌∷◌, take, sym, refl, ap, ◌∙◌, subst, inl, inr, ⊎_elim}
use Rattle.std.specs.List.{AllByRecursion as All}
use Rattle.std.proofs.lemmas.Bool.{both_ways, cases_Bool}
use Rattle.model.proofs.core.Lists.{Some, Pairs, all_map, all_two, all_some, some_map, some_all, pairs_map}
use Rattle.model.proofs.core.State.{Book, applied, puts, effect, Conflict, absent, Entry, up, down, Node, node, in_condition, says_finish, State, Write, note, write, write_all, write_items, outcomes, noted, serial, state_with_node}
use Rattle.model.proofs.core.Facts.{Committed, Dead, Known, Justified, Extends, dead_not_committed, ended_past_dead}
use Rattle.model.proofs.core.Agreement.{absent_past, absent_not_durable, standing_participant}
use Rattle.model.proofs.core.Outcomes.{outcomes_some, outcomes_pairs, noted_absent}
use Rattle.model.proofs.core.Replay.{applied_keep, replay_last}
use Rattle.model.proofs.core.Memories.{Before, Owes, Redone, Serving, Memories, Invariant}
use Rattle.model.proofs.core.KeptEntries.{KeptEntries, kept, kept_extends}
use Rattle.model.proofs.core.Writes.{Allowed, nothing_written, write_all_kept, torn_budget, write_all_items, all_items}

-- an entry of n without an outcome
abbrev pub InDoubt : ℕ → List Entry → Type 0
InDoubt n es = Some (λ e. (e.tid ≡ n) × (e.outcome ≡ absent)) es

-- the test names the entries of n, and no other
abbrev pub Names : (ℕ → ℕ → Bool) → ℕ → List Entry → Type 0
Names t n es = All (λ e. (t e.number e.tid ≡ true → e.tid ≡ n) × (e.tid ≡ n → t e.number e.tid ≡ true)) es

abbrev pub finish_writes : {V : Type 0} → Book V → ℕ → (ℕ → ℕ → Bool) → ℕ → Bool → List (Write V)
finish_writes B q t n v = note t v ∷ cond v (write_items ((B n).writes q)) []

module _ {V : Type 0} (B : Book V) (s : State V) (i : Invariant B s) (q n : ℕ) (doubt : InDoubt n (s.nodes q).entries) where
  abbrev k : Node V
  k = s.nodes q

  abbrev w : Memories B s
  w = i.memories

  -- what a finish says is known: where n is in doubt it cannot be over
  pub finish_known : (v : Bool) → Justified B s (says_finish n v) → Known B s n v
  finish_known true j = j
  finish_known false j =
      ended_past_dead B s n q (standing_participant B s i.agreement n q (some_map _ _ (λ e z. z.0) k.entries doubt))
      (some_map _ _ (λ e z. (z.0, z.1)) k.entries (absent_past B s i.agreement n q doubt)) j

  -- no two entries are of one tid
  pub doubt_only : All (λ e. e.tid ≡ n → e.outcome ≡ absent) k.entries
  doubt_only = go k.entries (w.order q) doubt
    where
      go : (es : List Entry) → Pairs (Before B s q) es → InDoubt n es → All (λ e. e.tid ≡ n → e.outcome ≡ absent) es
      go [] o d = absurd d
      go (e ∷ es) o (inl d) = ((λ _. d.1), all_map _ _ (λ f b r. absurd (b.1 (d.0 ∙ sym r))) es o.0)
      go (e ∷ es) o (inr d) = ((λ r. absurd (all_some (Before B s q e) _ ⊥ (λ f b z. b.1 (r ∙ sym z.0)) es o.0 d)), go es o.1 d)

  redone_by : (b : ℕ) → Committed B s n → puts (effect B n q b) ≡ true → Redone B s q b
  redone_by b c p = some_map _ _ (λ e h. (h.1, rw h.0 c, rw h.0 p)) k.entries (absent_past B s i.agreement n q doubt)

  module _ (t : ℕ → ℕ → Bool) (names : Names t n k.entries) where
    -- ## The writes are justified

    note_allowed : (v : Bool) → Known B s n v → Allowed B s i q (note t v)
    note_allowed v h = all_two _ _ _ (λ e a b z. let r = a.0 z in (subst (λ m. Known B s m v) (sym r) h, λ d. absent_not_durable e.outcome (b r) d)) k.entries names doubt_only

    pub finish_allowed : (v : Bool) → Known B s n v → All (Allowed B s i q) (finish_writes B q t n v)
    finish_allowed true c = (note_allowed true c, all_items _ ((B n).writes q) (λ u h b z. redone_by b c (h b z)))
    finish_allowed false d = (note_allowed false d, tt)

    -- ## The node serves on

    module _ (up_here : k.condition ≡ up) where
      still_owes : (v : Bool) (b : ℕ) → (puts (effect B n q b) ≡ false) ⊎ (Committed B s n → ⊥) → Some (Owes B s q b) k.entries → Some (Owes B s q b) (outcomes (noted t v) k.entries)
      still_owes v b h y = outcomes_some (noted t v) (Owes B s q b) k.entries (some_all _ _ _ (λ e a z. (go e a z (cases_Bool (t e.number e.tid)), z.1, z.2)) k.entries names y)
        where
          bad : (e : Entry) → Owes B s q b e → e.tid ≡ n → (puts (effect B n q b) ≡ false) ⊎ (Committed B s n → ⊥) → ⊥
          bad e z r (inl p) = both_ways (puts (effect B n q b)) p (rw r at z.2)
          bad e z r (inr c) = c (rw r at z.1)

          go : (e : Entry) → (t e.number e.tid ≡ true → e.tid ≡ n) × (e.tid ≡ n → t e.number e.tid ≡ true) → Owes B s q b e
              → ((t e.number e.tid ≡ true) ⊎ (t e.number e.tid ≡ false)) → noted t v e ≡ absent
          go e a z (inl r) = absurd (bad e z (a.0 r) h)
          go e a z (inr r) = rw r z.0

      locks_kept : (v : Bool) → Pairs (λ e f. Conflict B q e.tid f.tid → e.outcome ≡ absent → ⊥) (outcomes (noted t v) k.entries)
      locks_kept v = outcomes_pairs (noted t v) _ k.entries (pairs_map _ _ (λ e f a c z. a c (noted_absent (t e.number e.tid) v e.outcome z).1) k.entries (w.serving q up_here).locks)

      serves_yes : Committed B s n → (m : Node V) → m.entries ≡ outcomes (noted t true) k.entries → ((b : ℕ) → m.memory b ≡ applied (effect B n q b) (k.memory b)) → Serving B s q m
      serves_yes c m j h = record { shows = λ b. shows b (cases_Bool (puts (effect B n q b))); locks = rw j (locks_kept true) }
        where
          shows : (b : ℕ) → ((puts (effect B n q b) ≡ true) ⊎ (puts (effect B n q b) ≡ false)) → (m.memory b ≡ serial B s q b) ⊎ Some (Owes B s q b) m.entries
          shows b (inl p) = inl (h b ∙ sym (w.replayed q b ∙ replay_last B q k.pointer b s.past.log n c p k.entries (w.serving q up_here).locks (absent_past B s i.agreement n q doubt) (k.memory b) (k.memory b)))
          shows b (inr p) = ⊎_elim (λ r. inl (h b ∙ applied_keep (effect B n q b) p (k.memory b) ∙ r)) (λ y. inr (rw j (still_owes true b (inl p) y))) ((w.serving q up_here).shows b)

      serves_no : Dead B s n → (m : Node V) → m.entries ≡ outcomes (noted t false) k.entries → m.memory ≡ k.memory → Serving B s q m
      serves_no d m j h = record {
        shows = λ b. ⊎_elim (λ r. inl (ap (λ (f : ℕ → V). f b) h ∙ r)) (λ y. inr (rw j (still_owes false b (inr (dead_not_committed B s n d)) y))) ((w.serving q up_here).shows b);
        locks = rw j (locks_kept false);
      }

      finish_serves : (v : Bool) → Known B s n v → Serving B s q (write_all k (finish_writes B q t n v))
      unfolding write_all write
      finish_serves true c =
          subst (Serving B s q) (sym (write_all_items (write k (note t true)) ((B n).writes q)))
          (serves_yes c (node k.condition (λ b. applied (effect B n q b) (k.memory b)) (λ b. k.written b || puts (effect B n q b)) (outcomes (noted t true) k.entries) k.pointer k.given k.forced) refl (λ b. refl))
      finish_serves false d = serves_no d (write_all k (finish_writes B q t n false)) refl refl

      finish_kept : (v : Bool) → Known B s n v → KeptEntries B s q (write_all k (finish_writes B q t n v))
      finish_kept v h = write_all_kept B s i q k (finish_writes B q t n v) (finish_allowed v h) (nothing_written B s i q)

      pub finished : (v : Bool) → Known B s n v → Invariant B (state_with_node s q (write_all k (finish_writes B q t n v)))
      finished v h = kept B s i q (write_all k (finish_writes B q t n v)) (finish_kept v h) (λ _. finish_serves v h)

      pub finished_extends : (v : Bool) → Known B s n v → Extends B s (state_with_node s q (write_all k (finish_writes B q t n v)))
      finished_extends v h = kept_extends B s i q (write_all k (finish_writes B q t n v)) (finish_kept v h)

    -- power fails on the way
    pub finish_torn : (v : Bool) (f : ℕ) → Known B s n v → Invariant B (state_with_node s q (in_condition down (write_all k (take f (finish_writes B q t n v)))))
    finish_torn v f h = torn_budget B s i q f (finish_writes B q t n v) (finish_allowed v h)
