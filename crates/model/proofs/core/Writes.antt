-- Justified writes of one node: after any of them, in order, the node has kept its entries. So power may fail anywhere.
use Rattle.std.proofs.Common.{◌≡◌, ℕ, Bool, true, false, cond, ◌||◌, eqb, ◌⊎◌, List, [], ◌∷◌, ◌++◌, take, sym, refl, ap, ◌∙◌, ap₂, inl, inr, ⊎_elim, arith}
use Rattle.std.proofs.Math.Bool.{or_assoc, or-false}
use mathlib.Core.Path.{fun_ext}
use Rattle.std.specs.List.{AllByRecursion as All}
use Rattle.std.proofs.lemmas.Bool.{both_ways, cases_Bool, or_cases, or_right}
use Rattle.model.proofs.core.Lists.{all_map, all_two, all_take}
use Rattle.model.proofs.core.State.{Book, Effect, keep, put, applied, puts, followed, together, Outcome, present, Condition, up, down, Node, node, in_condition, State, Write, note, item, force, memory_flush, journal_flush, write, write_all, write_items, outcomes, noted, outcome_made_durable, state_with_node}
use Rattle.model.proofs.core.Facts.{Known, EntryRight}
use Rattle.model.proofs.core.Agreement.{Durable}
use Rattle.model.proofs.core.Outcomes.{outcomes_same, outcomes_outcomes, noted_right, made_durable_right, made_durable_stays}
use Rattle.model.proofs.core.Replay.{applied_keep}
use Rattle.model.proofs.core.Memories.{Redone, Invariant}
use Rattle.model.proofs.core.KeptEntries.{KeptEntries, kept}

module _ {V : Type 0} (B : Book V) (s : State V) (i : Invariant B s) (q : ℕ) where
  abbrev k : Node V
  k = s.nodes q

  -- what justifies a write
  abbrev pub Allowed : Write V → Type 0
  Allowed (note t v) = All (λ e. t e.number e.tid ≡ true → Known B s e.tid v × (Durable e.outcome → ⊥)) k.entries
  Allowed (item w) = (b : ℕ) → puts (w b) ≡ true → Redone B s q b
  Allowed (force n) = Unit {0}
  Allowed memory_flush = Unit {0}
  Allowed journal_flush = Unit {0}

  -- ## One write after the other

  pub nothing_written : KeptEntries B s q k
  nothing_written = record {
    new_outcome = λ e. e.outcome;
    entries = sym (outcomes_same k.entries);
    pointer_same = refl;
    given_same = refl;
    forced_kept = λ _ h. h;
    right = all_map (EntryRight B s q) _ (λ e o. o.right) k.entries (i.agreement.entries q);
    durable_kept = all_map (EntryRight B s q) _ (λ e _ h. h) k.entries (i.agreement.entries q);
    bytes = λ b. inl refl;
    written = λ b h. inl h;
  }

  put_byte : (m : Node V) (w : ℕ → Effect V) (b : ℕ) → (puts (w b) ≡ true → Redone B s q b) → (m.memory b ≡ k.memory b) ⊎ Redone B s q b → (applied (w b) (m.memory b) ≡ k.memory b) ⊎ Redone B s q b
  put_byte m w b h old = ⊎_elim (λ p. inr (h p)) (λ p. ⊎_elim (λ r. inl (applied_keep (w b) p (m.memory b) ∙ r)) inr old) (cases_Bool (puts (w b)))

  pub write_kept : (m : Node V) (x : Write V) → Allowed x → KeptEntries B s q m → KeptEntries B s q (write m x)
  unfolding write
  write_kept m (note t v) h c = record {
    new_outcome = λ e. cond (t e.number e.tid) (present v false) (c.new_outcome e);
    entries = ap (outcomes (noted t v)) c.entries ∙ outcomes_outcomes c.new_outcome (noted t v) k.entries;
    pointer_same = c.pointer_same;
    given_same = c.given_same;
    forced_kept = c.forced_kept;
    right = all_two _ _ _ (λ e r a. noted_right B s e.tid (t e.number e.tid) v (c.new_outcome e) (λ z. (a z).0) r) k.entries c.right h;
    durable_kept = all_two _ _ _ (λ e r a z. keep_durable (t e.number e.tid) v (c.new_outcome e) (λ y. (a y).1 z) (r z)) k.entries c.durable_kept h;
    bytes = c.bytes;
    written = c.written;
  }
    where
      keep_durable : (b v : Bool) (o : Outcome) → (b ≡ true → ⊥) → Durable o → Durable (cond b (present v false) o)
      keep_durable true v o h d = absurd (h refl)
      keep_durable false v o h d = d
  write_kept m (item w) h c = record {
    new_outcome = c.new_outcome;
    entries = c.entries;
    pointer_same = c.pointer_same;
    given_same = c.given_same;
    forced_kept = c.forced_kept;
    right = c.right;
    durable_kept = c.durable_kept;
    bytes = λ b. put_byte m w b (h b) (c.bytes b);
    written = λ b l. ⊎_elim (λ z. c.written b z) (λ z. inr (h b z)) (or_cases (m.written b) (puts (w b)) l);
  }
  write_kept m (force n) h c = record {
    new_outcome = c.new_outcome;
    entries = c.entries;
    pointer_same = c.pointer_same;
    given_same = c.given_same;
    forced_kept = λ j z. or_right (eqb j n) (m.forced j) (c.forced_kept j z);
    right = c.right;
    durable_kept = c.durable_kept;
    bytes = c.bytes;
    written = c.written;
  }
  write_kept m memory_flush h c = record {
    new_outcome = c.new_outcome;
    entries = c.entries;
    pointer_same = c.pointer_same;
    given_same = c.given_same;
    forced_kept = c.forced_kept;
    right = c.right;
    durable_kept = c.durable_kept;
    bytes = c.bytes;
    written = λ b l. absurd (both_ways false refl l);
  }
  write_kept m journal_flush h c = record {
    new_outcome = λ e. outcome_made_durable (c.new_outcome e);
    entries = ap (outcomes (λ e. outcome_made_durable e.outcome)) c.entries ∙ outcomes_outcomes c.new_outcome (λ e. outcome_made_durable e.outcome) k.entries;
    pointer_same = c.pointer_same;
    given_same = c.given_same;
    forced_kept = c.forced_kept;
    right = all_map _ _ (λ e r. made_durable_right B s e.tid (c.new_outcome e) r) k.entries c.right;
    durable_kept = all_map _ _ (λ e r z. made_durable_stays (c.new_outcome e) (r z)) k.entries c.durable_kept;
    bytes = c.bytes;
    written = c.written;
  }

  pub write_all_kept : (m : Node V) (ws : List (Write V)) → All Allowed ws → KeptEntries B s q m → KeptEntries B s q (write_all m ws)
  unfolding write_all
  write_all_kept m [] h c = c
  write_all_kept m (x ∷ ws) h c = write_all_kept (write m x) ws h.1 (write_kept m x h.0 c)

  pub condition_kept : (m : Node V) (d : Condition) → KeptEntries B s q m → KeptEntries B s q (in_condition d m)
  condition_kept m d c = record {
    new_outcome = c.new_outcome;
    entries = c.entries;
    pointer_same = c.pointer_same;
    given_same = c.given_same;
    forced_kept = c.forced_kept;
    right = c.right;
    durable_kept = c.durable_kept;
    bytes = c.bytes;
    written = c.written;
  }

  -- ## Power fails

  down_not_up : down ≡ up → ⊥
  down_not_up e = let z : ◌≡◌ {A = ℕ} 0 1 = cc in omega arith

  -- after any justified writes
  pub torn : (ws : List (Write V)) → All Allowed ws → Invariant B (state_with_node s q (in_condition down (write_all k ws)))
  torn ws h = kept B s i q (in_condition down (write_all k ws)) (condition_kept (write_all k ws) down (write_all_kept k ws h nothing_written)) (λ e. absurd (down_not_up e))

  -- after the first f of them
  pub torn_budget : (f : ℕ) (ws : List (Write V)) → All Allowed ws → Invariant B (state_with_node s q (in_condition down (write_all k (take f ws))))
  torn_budget f ws h = torn (take f ws) (all_take Allowed f ws h)

-- ## Write items as one effect on each byte

applied_followed : {V : Type 0} (x y : Effect V) (a : V) → applied (followed x y) a ≡ applied y (applied x a)
applied_followed x keep a = refl
applied_followed x (put v) a = refl

puts_followed : {V : Type 0} (x y : Effect V) → puts (followed x y) ≡ puts x || puts y
puts_followed keep keep = refl
puts_followed (put v) keep = refl
puts_followed keep (put v) = refl
puts_followed (put u) (put v) = refl

module _ {V : Type 0} where
  pub write_all_items : (k : Node V) (ws : List (ℕ → Effect V))
      → write_all k (write_items ws) ≡ node k.condition (λ b. applied (together ws b) (k.memory b)) (λ b. k.written b || puts (together ws b)) k.entries k.pointer k.given k.forced
  unfolding write_all write_items together write
  write_all_items k [] = ap (λ (l : ℕ → Bool). node k.condition k.memory l k.entries k.pointer k.given k.forced) (fun_ext (λ b. sym (or-false (k.written b))))
  write_all_items k (w ∷ ws) =
      write_all_items (write k (item w)) ws
      ∙ ap₂ (λ (m : ℕ → V) (l : ℕ → Bool). node k.condition m l k.entries k.pointer k.given k.forced)
      (fun_ext (λ b. sym (applied_followed (w b) (together ws b) (k.memory b))))
      (fun_ext (λ b. or_assoc (k.written b) (puts (w b)) (puts (together ws b)) ∙ ap (λ c. k.written b || c) (sym (puts_followed (w b) (together ws b)))))

  pub write_all_append : (k : Node V) (xs ys : List (Write V)) → write_all k (xs ++ ys) ≡ write_all (write_all k xs) ys
  unfolding write_all
  write_all_append k [] ys = refl
  write_all_append k (x ∷ xs) ys = write_all_append (write k x) xs ys

  -- what each of the items may need
  pub all_items : (P : Write V → Type 0) (ws : List (ℕ → Effect V)) → ((w : ℕ → Effect V) → ((b : ℕ) → puts (w b) ≡ true → puts (together ws b) ≡ true) → P (item w)) → All P (write_items ws)
  unfolding write_items together
  all_items P [] f = tt
  all_items P (w ∷ ws) f = (
    f w (λ b h. puts_followed (w b) (together ws b) ∙ rw h refl),
    all_items P ws (λ j g. f j (λ b h. puts_followed (w b) (together ws b) ∙ or_right (puts (w b)) (puts (together ws b)) (g b h))),
  )
