-- Durable writes at one node, whole or cut short by the loss of power, as a step of the cluster.
use Rattle.std.proofs.Common.{◌≡◌, ℕ, zero, suc, ◌<◌, Bool, true, false, cond, eqb, List, [], ◌∷◌, map, length, get_or, set, Some as SomeOf, Option, sym, refl, ap, ◌∙◌}
use Rattle.std.specs.List.{AllByRecursion as All}
use Rattle.model.specs.declared.outcome.Outcome.{Outcome}
use Rattle.model.specs.Items.{Item}
use Rattle.model.specs.Cells.{Cell}
use Rattle.model.specs.Lists.{place}
use Rattle.model.specs.Journal.{Entry, tid_of, no_entry, with_outcome, pending, made_durable}
use Rattle.model.specs.Writes.{Stores, Write, add_entry, force, note, put, flush_memory, flush_journal, point, drop_oldest, applied, applied_all}
use Rattle.model.specs.Node.{powerless}
use Rattle.model.specs.Cluster.{Cluster, node_at, with_node}
use Rattle.model.specs.Deeds as deeds
use Rattle.model.specs.Deeds.{Deed, wrote, touched, touched_by_all, yes_after, yes_by_all}
use Rattle.model.proofs.core.Lists.{pairs_map}
use Rattle.model.proofs.core.State as core
use Rattle.model.proofs.core.State.{Past, State, state_with_node, in_condition, up, down, write_all}
use Rattle.model.proofs.core.Memories.{Before}
use Rattle.model.proofs.core.KeptEntries.{kept_extends}
use Rattle.model.proofs.core.Writes.{Allowed, nothing_written, write_all_kept, condition_kept, torn}
use Rattle.model.proofs.bridge.ItemBook.{item_book}
use Rattle.model.proofs.bridge.SerialMemories.{logged_entry}
use Rattle.model.proofs.bridge.WritesSeen.{TidsDistinct, Seen, write_seen, writes_are_seen, writes_length, distinct_from_seen}
use Rattle.model.proofs.bridge.Abstraction.{Touched, cluster_seen, node_seen, stores_seen}
use Rattle.model.proofs.bridge.Tables.{EntryCopies}
use Rattle.model.proofs.bridge.Sound.{Sound, Step}
use Rattle.model.proofs.bridge.NodeSteps.{step_node, powerless_fits, wrote_others, wrote_here}

-- ## What such writes leave as it is

-- they are no yes entries
pub seen_no_yes : (m q : ℕ) (xs : List Write) → All (Seen m) xs → (L : List deeds.Yes) → yes_by_all q xs L ≡ L
unfolding yes_by_all
seen_no_yes m q [] h L = refl
seen_no_yes m q (note tid b ∷ xs) h L = seen_no_yes m q xs h.1 L
seen_no_yes m q (put i ∷ xs) h L = seen_no_yes m q xs h.1 L
seen_no_yes m q (flush_memory ∷ xs) h L = seen_no_yes m q xs h.1 L
seen_no_yes m q (flush_journal ∷ xs) h L = seen_no_yes m q xs h.1 L
seen_no_yes m q (add_entry tid ps ws ∷ xs) h L = absurd h.0
seen_no_yes m q (force tid ∷ xs) h L = absurd h.0
seen_no_yes m q (point n ∷ xs) h L = absurd h.0
seen_no_yes m q (drop_oldest ∷ xs) h L = absurd h.0

pub all_set : {A : Type 0} (P : A → Type 0) (xs : List A) (i : ℕ) (y : A) → All P xs → (P (get_or xs i y) → P y) → All P (set xs i y)
all_set P [] i y h f = tt
all_set P (x ∷ xs) zero y h f = (f h.0, h.1)
all_set P (x ∷ xs) (suc i) y h f = (h.0, all_set P xs i y h.1 f)

-- participants and write items of entries
module _ (P : Entry → Type 0) (kept : (e : Entry) (o : Option Outcome) → P e → P (with_outcome e o)) where
  noted_copies : (tid : ℕ) (b : Bool) (es : List Entry) → All P es → All P (set es (place tid_of tid es) (with_outcome (get_or es (place tid_of tid es) no_entry) (SomeOf (pending b))))
  unfolding place
  noted_copies tid b [] h = tt
  noted_copies tid b (e ∷ es) h = go (eqb e.tid tid) (noted_copies tid b es h.1)
    where
      go : (c : Bool) → All P (set es (place tid_of tid es) (with_outcome (get_or es (place tid_of tid es) no_entry) (SomeOf (pending b))))
          → All P (set (e ∷ es) (cond c 0 (suc (place tid_of tid es))) (with_outcome (get_or (e ∷ es) (cond c 0 (suc (place tid_of tid es))) no_entry) (SomeOf (pending b))))
      go true r = (kept e (SomeOf (pending b)) h.0, h.1)
      go false r = (h.0, r)

  flushed_copies : (es : List Entry) → All P es → All P (map made_durable es)
  flushed_copies [] h = tt
  flushed_copies (e ∷ es) h = (kept e _ h.0, flushed_copies es h.1)

  pub writes_copies : (m : ℕ) (s : Stores) (xs : List Write) → All (Seen m) xs → All P s.journal.entries → All P (applied_all xs s).journal.entries
  unfolding applied_all
  writes_copies m s [] h a = a
  writes_copies m s (note tid b ∷ xs) h a = writes_copies m (applied (note tid b) s) xs h.1 (noted_copies tid b s.journal.entries a)
  writes_copies m s (put i ∷ xs) h a = writes_copies m (applied (put i) s) xs h.1 a
  writes_copies m s (flush_memory ∷ xs) h a = writes_copies m (applied flush_memory s) xs h.1 a
  writes_copies m s (flush_journal ∷ xs) h a = writes_copies m (applied flush_journal s) xs h.1 (flushed_copies s.journal.entries a)
  writes_copies m s (add_entry tid ps ws ∷ xs) h a = absurd h.0
  writes_copies m s (force tid ∷ xs) h a = absurd h.0
  writes_copies m s (point n ∷ xs) h a = absurd h.0
  writes_copies m s (drop_oldest ∷ xs) h a = absurd h.0

-- writes do not look at the condition
pub condition_writes : (d : core.Condition) (k : core.Node Cell) (xs : List (core.Write Cell)) → in_condition d (write_all k xs) ≡ write_all (in_condition d k) xs
unfolding write_all core.write
condition_writes d k [] = refl
condition_writes d k (core.note t v ∷ xs) = condition_writes d (core.write k (core.note t v)) xs
condition_writes d k (core.item u ∷ xs) = condition_writes d (core.write k (core.item u)) xs
condition_writes d k (core.force n ∷ xs) = condition_writes d (core.write k (core.force n)) xs
condition_writes d k (core.memory_flush ∷ xs) = condition_writes d (core.write k core.memory_flush) xs
condition_writes d k (core.journal_flush ∷ xs) = condition_writes d (core.write k core.journal_flush) xs

-- ## Writes at a node

module _ (items : ℕ → List Item) (sizes : ℕ → ℕ) (count : ℕ) (h : Past Cell) (w : Touched) (c : Cluster) (s : Sound items sizes count h w c) (q : ℕ) where
  abbrev B : core.Book Cell
  B = item_book items

  abbrev S : State Cell
  S = cluster_seen h w c

  abbrev st : Stores
  st = (node_at c q).stores

  pub tids_distinct : TidsDistinct st.journal.entries
  unfolding cluster_seen
  tids_distinct = distinct_from_seen st.journal.entries (pairs_map (Before B S q) _ (λ e f z. z.1) (S.nodes q).entries (s.invariant.memories.order q))

  -- the stores after the writes, in a condition
  pub writes_here : (d : core.Condition) (xs : List Write) → All (Seen (length st.cells)) xs
      → stores_seen d (λ b. touched (wrote q xs) q b (w q b)) (applied_all xs st) ≡ in_condition d (write_all (S.nodes q) (map write_seen xs))
  unfolding cluster_seen
  writes_here d xs seen =
      ap (λ (u : ℕ → Bool). stores_seen d u (applied_all xs st)) (wrote_here items sizes count h w c s q xs)
      ∙ writes_are_seen d (w q) st xs tids_distinct seen
      ∙ sym (condition_writes d (node_seen (w q) (node_at c q)) (map write_seen xs))

  keeps_copies : (e : Entry) (o : Option Outcome) → EntryCopies items q e → EntryCopies items q (with_outcome e o)
  keeps_copies e o z = z

  pub entries_kept : (xs : List Write) → All (Seen (length st.cells)) xs → All (EntryCopies items q) st.journal.entries → All (EntryCopies items q) (applied_all xs st).journal.entries
  entries_kept xs seen a = writes_copies (EntryCopies items q) keeps_copies (length st.cells) st xs seen a

  -- power fails after justified writes
  pub step_torn : q < length c.nodes → (xs : List Write) → All (Seen (length st.cells)) xs → All (Allowed B S s.invariant q) (map write_seen xs)
      → Step items sizes count h w c (wrote q xs) (with_node c q (powerless (applied_all xs st)))
  step_torn l xs seen ok =
      step_node items sizes count h w c s q l (powerless (applied_all xs st)) (wrote q xs) k (wrote_others items sizes count h w c s q xs) (seen_no_yes (length st.cells) q xs seen (map logged_entry h.log))
      (writes_here down xs seen) (torn B S s.invariant q (map write_seen xs) ok)
      (kept_extends B S s.invariant q k (condition_kept B S s.invariant q (write_all (S.nodes q) (map write_seen xs)) down (write_all_kept B S s.invariant q (S.nodes q) (map write_seen xs) ok (nothing_written B S s.invariant q))))
      (powerless_fits items sizes count h w c s (state_with_node S q k) q (applied_all xs st) (writes_length st xs ∙ (s.tables.nodes q l).size) (entries_kept xs seen (s.tables.nodes q l).entries))
    where
      k : core.Node Cell
      k = in_condition down (write_all (S.nodes q) (map write_seen xs))
