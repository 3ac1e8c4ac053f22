-- A node that is up takes a finish: the outcome is noted, on yes the write items are written, and nothing is in doubt any more.
use Rattle.std.proofs.Common.{◌≡◌, ℕ, zero, suc, ◌<◌, Bool, true, false, cond, eqb, ◌⊎◌, List, [], ◌∷◌, map, length, get_or, take, set, Some as SomeOf, sym, refl, ap, ◌∙◌, subst, inl, inr, arith}
use Rattle.std.specs.List.{remove, AllByRecursion as All}
use Rattle.std.proofs.lemmas.Bool.{cases_eq, both_ways, eq-eqb, ne_eqb, cond_both}
use Rattle.std.proofs.lemmas.List.{take-map, length-set, length-map}
use Rattle.model.specs.declared.condition.Condition.TheVariants.{Up, Recovering}
use Rattle.model.specs.Items.{Item}
use Rattle.model.specs.Cells.{Cell}
use Rattle.model.specs.Lists.{place}
use Rattle.model.specs.Ranges.{items_at, writes_in, is_write}
use Rattle.model.specs.Answers.{Answer}
use Rattle.model.specs.Journal.{Entry, tid_of, no_entry, with_outcome, pending, made_durable, is_empty, oldest}
use Rattle.model.specs.Writes.{Stores, Write, add_entry, force, note, put, flush_memory, flush_journal, point, drop_oldest, applied, applied_all}
use Rattle.model.specs.Node.{Node, Doubt, Volatile, journal_of, cells_of, is_in_doubt, doubt_of, doubt_tid, no_doubt, powerless}
use Rattle.model.specs.Cluster.{Cluster, node_at, with_node}
use Rattle.model.specs.Handling.{Effect, finishing, finished, puts_if}
use Rattle.model.specs.Calls.{carried}
use Rattle.model.specs.Deeds.{wrote, wrote_by, touched}
use Rattle.model.proofs.core.Lists.{Some, Pairs, all_two, all_take, all_some, some_map}
use Rattle.model.proofs.core.State as core
use Rattle.model.proofs.core.State.{Past, State, absent, present, state_with_node, in_condition, up, write_all, write_items, outcomes, says_finish, says_settled}
use Rattle.model.proofs.core.Facts.{Justified, Known, Extends}
use Rattle.model.proofs.core.Memories.{Invariant}
use Rattle.model.proofs.core.Outcomes.{outcomes_some, noted_absent}
use Rattle.model.proofs.core.Writes.{Allowed, write_all_items}
use Rattle.model.proofs.core.Finish as finish
use Rattle.model.proofs.core.Finish.{InDoubt, finish_writes, finish_known, finish_allowed}
use Rattle.model.proofs.core.Resume.{of_tid, of_tid_names}
use Rattle.model.proofs.bridge.Tests.{stands_some, found_is, found_all, only_all, only_passes}
use Rattle.model.proofs.bridge.ItemEffects.{Fits, item_effect}
use Rattle.model.proofs.bridge.ItemBook.{item_book}
use Rattle.model.proofs.bridge.SerialMemories.{Within, within_at, logged_entry}
use Rattle.model.proofs.bridge.WritesSeen.{Seen, write_seen, writes_length}
use Rattle.model.proofs.bridge.Abstraction.{Touched, cluster_seen, node_seen, stores_seen, entries_seen, condition_seen}
use Rattle.model.proofs.bridge.Tables.{DoubtCopies, NodeFits, node_stays}
use Rattle.model.proofs.bridge.Sound.{Sound, Step, all_removed}
use Rattle.model.proofs.bridge.NodeSteps.{step_node, wrote_others}
use Rattle.model.proofs.bridge.WriteSteps.{seen_no_yes, writes_here, entries_kept, step_torn, condition_writes}
use Rattle.model.proofs.bridge.Collect.{sent_nothing, done_node, step_carried}
use Rattle.model.proofs.bridge.Resume.{puts_seen, puts_are_seen}
use Rattle.model.proofs.bridge.Quiet.{step_without_effect}

-- ## The oldest entry stays the oldest

noted_oldest : (tid : ℕ) (b : Bool) (es : List Entry) → (get_or (set es (place tid_of tid es) (with_outcome (get_or es (place tid_of tid es) no_entry) (SomeOf (pending b)))) 0 no_entry).tid ≡ (get_or es 0 no_entry).tid
unfolding place
noted_oldest tid b [] = refl
noted_oldest tid b (e ∷ es) = go (eqb e.tid tid)
  where
    go : (c : Bool) → (get_or (set (e ∷ es) (cond c 0 (suc (place tid_of tid es))) (with_outcome (get_or (e ∷ es) (cond c 0 (suc (place tid_of tid es))) no_entry) (SomeOf (pending b)))) 0 no_entry).tid ≡ e.tid
    go true = refl
    go false = refl

pub writes_oldest : (m : ℕ) (s : Stores) (xs : List Write) → All (Seen m) xs → (is_empty (applied_all xs s).journal ≡ is_empty s.journal) × ((oldest (applied_all xs s).journal).tid ≡ (oldest s.journal).tid)
unfolding applied_all
writes_oldest m s [] h = (refl, refl)
writes_oldest m s (note tid b ∷ xs) h =
    let r = writes_oldest m (applied (note tid b) s) xs h.1 in
    (r.0 ∙ ap (λ k. eqb k 0) (length-set s.journal.entries (place tid_of tid s.journal.entries) (with_outcome (get_or s.journal.entries (place tid_of tid s.journal.entries) no_entry) (SomeOf (pending b)))), r.1 ∙ noted_oldest tid b s.journal.entries)
writes_oldest m s (put i ∷ xs) h = writes_oldest m (applied (put i) s) xs h.1
writes_oldest m s (flush_memory ∷ xs) h = writes_oldest m (applied flush_memory s) xs h.1
writes_oldest m s (flush_journal ∷ xs) h =
    let r = writes_oldest m (applied flush_journal s) xs h.1 in
    (r.0 ∙ ap (λ k. eqb k 0) (length-map s.journal.entries made_durable), r.1 ∙ first s.journal.entries)
  where
    first : (es : List Entry) → (get_or (map made_durable es) 0 no_entry).tid ≡ (get_or es 0 no_entry).tid
    first [] = refl
    first (e ∷ es) = refl
writes_oldest m s (add_entry tid ps ws ∷ xs) h = absurd h.0
writes_oldest m s (force tid ∷ xs) h = absurd h.0
writes_oldest m s (point n ∷ xs) h = absurd h.0
writes_oldest m s (drop_oldest ∷ xs) h = absurd h.0

-- ## The table of what is in doubt

abbrev DoubtsDistinct : List Doubt → Type 0
DoubtsDistinct ds = Pairs (λ (a b : Doubt). a.tid ≡ b.tid → ⊥) ds

removed_distinct : (i : ℕ) (ds : List Doubt) → DoubtsDistinct ds → DoubtsDistinct (remove ds i)
removed_distinct zero [] d = tt
removed_distinct (suc i) [] d = tt
removed_distinct zero (x ∷ ds) d = d.1
removed_distinct (suc i) (x ∷ ds) d = (all_removed (λ (b : Doubt). x.tid ≡ b.tid → ⊥) i ds d.0, removed_distinct i ds d.1)

-- what is left is of other tids, and stood before
removed_other : (tid m : ℕ) (ds : List Doubt) → DoubtsDistinct ds → Some (λ (x : Doubt). x.tid ≡ m) (remove ds (place doubt_tid tid ds)) → Some (λ (x : Doubt). x.tid ≡ tid) ds → (m ≡ tid → ⊥) × Some (λ (x : Doubt). x.tid ≡ m) ds
unfolding place
removed_other tid m [] d x y = absurd y
removed_other tid m (e ∷ ds) d x y = go (cases_eq e.tid tid) x y (removed_other tid m ds d.1)
  where
    go : ((e.tid ≡ tid) ⊎ (e.tid ≡ tid → ⊥)) → Some (λ (x : Doubt). x.tid ≡ m) (remove (e ∷ ds) (cond (eqb e.tid tid) 0 (suc (place doubt_tid tid ds)))) → Some (λ (x : Doubt). x.tid ≡ tid) (e ∷ ds)
        → (Some (λ (x : Doubt). x.tid ≡ m) (remove ds (place doubt_tid tid ds)) → Some (λ (x : Doubt). x.tid ≡ tid) ds → (m ≡ tid → ⊥) × Some (λ (x : Doubt). x.tid ≡ m) ds)
        → (m ≡ tid → ⊥) × Some (λ (x : Doubt). x.tid ≡ m) (e ∷ ds)
    go (inl r) x y i =
        let x' : Some (λ (x : Doubt). x.tid ≡ m) ds = rw (eq-eqb e.tid tid r) at x in
        ((λ z. all_some (λ (b : Doubt). e.tid ≡ b.tid → ⊥) _ ⊥ (λ b a u. a (r ∙ sym z ∙ sym u)) ds d.0 x'), inr x')
    go (inr r) x y i = late (rw (ne_eqb e.tid tid r) at x) y
      where
        late : Some (λ (x : Doubt). x.tid ≡ m) (e ∷ remove ds (place doubt_tid tid ds)) → Some (λ (x : Doubt). x.tid ≡ tid) (e ∷ ds) → (m ≡ tid → ⊥) × Some (λ (x : Doubt). x.tid ≡ m) (e ∷ ds)
        late (inl u) y = ((λ z. r (u ∙ z)), inl u)
        late (inr u) (inl y) = absurd (r y)
        late (inr u) (inr y) = let k = i u y in (k.0, inr k.1)

removed_keeps : (tid m : ℕ) (ds : List Doubt) → (m ≡ tid → ⊥) → Some (λ (x : Doubt). x.tid ≡ m) ds → Some (λ (x : Doubt). x.tid ≡ m) (remove ds (place doubt_tid tid ds))
unfolding place
removed_keeps tid m [] ne x = absurd x
removed_keeps tid m (e ∷ ds) ne x = go (cases_eq e.tid tid) x (removed_keeps tid m ds ne)
  where
    go : ((e.tid ≡ tid) ⊎ (e.tid ≡ tid → ⊥)) → Some (λ (x : Doubt). x.tid ≡ m) (e ∷ ds) → (Some (λ (x : Doubt). x.tid ≡ m) ds → Some (λ (x : Doubt). x.tid ≡ m) (remove ds (place doubt_tid tid ds)))
        → Some (λ (x : Doubt). x.tid ≡ m) (remove (e ∷ ds) (cond (eqb e.tid tid) 0 (suc (place doubt_tid tid ds))))
    go (inl r) (inl u) i = absurd (ne (sym u ∙ r))
    go (inl r) (inr u) i = rw (eq-eqb e.tid tid r) u
    go (inr r) (inl u) i = rw (ne_eqb e.tid tid r) (inl u)
    go (inr r) (inr u) i = rw (ne_eqb e.tid tid r) (inr (i u))

-- an entry without an outcome after the note is another one, and had none before
noted_open : (tid m : ℕ) (b : Bool) (es : List core.Entry) → Some (λ (e : core.Entry). (e.tid ≡ m) × (e.outcome ≡ absent)) (outcomes (core.noted (of_tid tid) b) es) → (m ≡ tid → ⊥) × Some (λ (e : core.Entry). (e.tid ≡ m) × (e.outcome ≡ absent)) es
unfolding outcomes
noted_open tid m b [] x = absurd x
noted_open tid m b (e ∷ es) (inl x) = let u = noted_absent (eqb e.tid tid) b e.outcome x.1 in ((λ z. both_ways (eqb e.tid tid) u.0 (eq-eqb e.tid tid (x.0 ∙ z))), inl (x.0, u.1))
noted_open tid m b (e ∷ es) (inr x) = let r = noted_open tid m b es x in (r.0, inr r.1)

open_noted : (tid m : ℕ) (b : Bool) (es : List core.Entry) → (m ≡ tid → ⊥) → Some (λ (e : core.Entry). (e.tid ≡ m) × (e.outcome ≡ absent)) es → Some (λ (e : core.Entry). (e.tid ≡ m) × (e.outcome ≡ absent)) (outcomes (core.noted (of_tid tid) b) es)
open_noted tid m b es ne x = outcomes_some (core.noted (of_tid tid) b) (λ e. (e.tid ≡ m) × (e.outcome ≡ absent)) es (some_map _ _ (λ e z. (z.0, rw (ne_eqb e.tid tid (λ y. ne (sym z.0 ∙ y))) z.1)) es x)

-- ## The call

module _ (items : ℕ → List Item) (sizes : ℕ → ℕ) (count : ℕ) (within : (n : ℕ) → Within sizes count (items n))
    (h : Past Cell) (w : Touched) (c : Cluster) (s : Sound items sizes count h w c) (q : ℕ) (l : q < length c.nodes) (up_here : (node_at c q).volatile.condition ≡ Up) where
  abbrev B : core.Book Cell
  B = item_book items

  abbrev S : State Cell
  S = cluster_seen h w c

  abbrev n : Node
  n = node_at c q

  abbrev v : Volatile
  v = n.volatile

  fits : NodeFits items S sizes q n
  fits = s.tables.nodes q l

  seen_up : (S.nodes q).condition ≡ up
  unfolding cluster_seen
  seen_up = ap condition_seen up_here

  module _ (tid : ℕ) (b : Bool) (j : Justified B S (says_finish tid b)) (doubt : is_in_doubt v tid ≡ true) where
    there : Some (λ (d : Doubt). d.tid ≡ tid) v.in_doubt
    there = stands_some doubt_tid tid v.in_doubt doubt

    in_doubt_here : InDoubt tid (S.nodes q).entries
    unfolding cluster_seen
    in_doubt_here = fits.doubts_open up_here tid there

    known : Known B S tid b
    known = finish_known B S s.invariant q tid in_doubt_here b j

    copy : (doubt_of v tid).items ≡ items_at q (items tid)
    copy = (found_all doubt_tid tid (DoubtCopies items q) v.in_doubt no_doubt there fits.doubts).1 ∙ ap (λ m. items_at q (items m)) (found_is doubt_tid tid v.in_doubt no_doubt there)

    abbrev xs : List Write
    xs = note tid b ∷ puts_if b (writes_in (doubt_of v tid).items)

    writes_same : map write_seen xs ≡ finish_writes B q (of_tid tid) tid b
    writes_same = ap (λ ws. core.note (of_tid tid) b ∷ ws) (puts_seen b (writes_in (doubt_of v tid).items) ∙ ap (λ is. cond b (write_items (map item_effect (writes_in is))) []) copy)

    seen : All (Seen (length (cells_of n))) xs
    seen = (
      tt,
      puts_are_seen (length (cells_of n)) b (writes_in (doubt_of v tid).items)
          (subst (λ is. All (λ i. (is_write i ≡ true) × Fits (length (cells_of n)) i) (writes_in is)) (sym copy)
          (all_two _ _ _ (λ i x y. (x, y)) (writes_in (items_at q (items tid))) (only_passes is_write (items_at q (items tid)))
          (only_all (Fits (length (cells_of n))) is_write (items_at q (items tid)) (subst (λ m. All (Fits m) (items_at q (items tid))) (sym fits.size) (within_at sizes count (items tid) (within tid) q))))),
    )

    abbrev k : core.Node Cell
    k = write_all (S.nodes q) (finish_writes B q (of_tid tid) tid b)

    abbrev effect : Effect
    effect = record { writes = xs; volatile = finished v tid; sent = [] }

    abbrev n' : Node
    n' = done_node items sizes count h w c s q effect

    still_up : in_condition up (S.nodes q) ≡ S.nodes q
    still_up = rw (← seen_up) refl

    finished_seen : node_seen (λ z. touched (wrote q xs) q z (w q z)) n' ≡ k
    finished_seen = ap (λ d. stores_seen d (λ z. touched (wrote q xs) q z (w q z)) (applied_all xs n.stores)) (ap condition_seen up_here)
        ∙ writes_here items sizes count h w c s q up xs seen
        ∙ ap (λ (ws : List (core.Write Cell)). in_condition up (write_all (S.nodes q) ws)) writes_same
        ∙ condition_writes up (S.nodes q) (finish_writes B q (of_tid tid) tid b)
        ∙ ap (λ (m : core.Node Cell). write_all m (finish_writes B q (of_tid tid) tid b)) still_up

    new_entries : entries_seen (journal_of n').entries ≡ outcomes (core.noted (of_tid tid) b) (entries_seen (journal_of n).entries)
    unfolding cluster_seen write_all core.write
    new_entries = ap (λ (m : core.Node Cell). m.entries) finished_seen ∙ go b
      where
        go : (b : Bool) → (write_all (S.nodes q) (finish_writes B q (of_tid tid) tid b)).entries ≡ outcomes (core.noted (of_tid tid) b) (S.nodes q).entries
        go true = ap (λ (m : core.Node Cell). m.entries) (write_all_items (core.write (S.nodes q) (core.note (of_tid tid) true)) ((B tid).writes q))
        go false = refl

    i' : Invariant B (state_with_node S q k)
    i' = finish.finished B S s.invariant q tid in_doubt_here (of_tid tid) (of_tid_names tid (S.nodes q).entries) seen_up b known

    x' : Extends B S (state_with_node S q k)
    x' = finish.finished_extends B S s.invariant q tid in_doubt_here (of_tid tid) (of_tid_names tid (S.nodes q).entries) seen_up b known

    finished_fits : NodeFits items (state_with_node S q k) sizes q n'
    finished_fits =
        let f = node_stays items S (state_with_node S q k) x' sizes q n fits in
        let o = writes_oldest (length (cells_of n)) n.stores xs seen in
        record {
          size = writes_length n.stores xs ∙ f.size;
          entries = entries_kept items sizes count h w c s q xs seen f.entries;
          doubts = all_removed _ (place doubt_tid tid v.in_doubt) v.in_doubt f.doubts;
          doubts_distinct = removed_distinct (place doubt_tid tid v.in_doubt) v.in_doubt f.doubts_distinct;
          doubts_open = λ u m x. let r = removed_other tid m v.in_doubt f.doubts_distinct x there in
              subst (Some (λ (e : core.Entry). (e.tid ≡ m) × (e.outcome ≡ absent))) (sym new_entries) (open_noted tid m b (entries_seen (journal_of n).entries) r.0 (f.doubts_open up_here m r.1));
          open_doubts = λ u m x. let r = noted_open tid m b (entries_seen (journal_of n).entries) (subst (Some (λ (e : core.Entry). (e.tid ≡ m) × (e.outcome ≡ absent))) new_entries x) in
              removed_keeps tid m v.in_doubt r.0 (f.open_doubts up_here m r.1);
          unresolved = rw (f.none_unresolved up_here) tt;
          none_unresolved = λ _. f.none_unresolved up_here;
          open_unresolved = λ r. absurd (up_not_recovering (sym up_here ∙ r));
          acknowledged = λ p r. (o.0 ∙ (f.acknowledged p r).0, subst (λ m. Justified B (state_with_node S q k) (says_settled m p)) (sym o.1) (f.acknowledged p r).1);
        }
      where
        up_not_recovering : Up ≡ Recovering → ⊥
        up_not_recovering z = let y : ◌≡◌ {A = ℕ} 0 1 = cc in omega arith

    whole : Step items sizes count h w c (wrote q xs) (with_node c q n')
    whole = step_node items sizes count h w c s q l n' (wrote q xs) k (wrote_others items sizes count h w c s q xs) (seen_no_yes (length (cells_of n)) q xs seen (map logged_entry h.log)) finished_seen i' x' finished_fits

    torn_at : (f : ℕ) → Step items sizes count h w c (wrote q (take f xs)) (with_node c q (powerless (applied_all (take f xs) n.stores)))
    torn_at f = step_torn items sizes count h w c s q l (take f xs) (all_take (Seen (length (cells_of n))) f xs seen)
        (subst (All (Allowed B S s.invariant q)) (take-map write_seen f xs) (all_take (Allowed B S s.invariant q) f (map write_seen xs) (subst (All (Allowed B S s.invariant q)) (sym writes_same)
        (finish_allowed B S s.invariant q tid in_doubt_here (of_tid tid) (of_tid_names tid (S.nodes q).entries) b known))))

    step_finished : (budget : ℕ) (a : Answer) → Step items sizes count h w c (wrote_by q budget effect) (carried c q budget effect a).1
    step_finished budget a = step_carried items sizes count h w c s q budget effect a (torn_at budget) (subst (Step items sizes count h w c (wrote q xs)) (sym (sent_nothing (with_node c q n'))) whole)

  pub step_finishing : (budget : ℕ) (a : Answer) (tid : ℕ) (b : Bool) → Justified B S (says_finish tid b) → Step items sizes count h w c (wrote_by q budget (finishing n tid b)) (carried c q budget (finishing n tid b) a).1
  step_finishing budget a tid b j = cond_both (is_in_doubt v tid) _ _ (λ (e : Effect). Step items sizes count h w c (wrote_by q budget e) (carried c q budget e a).1)
      (λ z. step_finished tid b j z budget a) (λ _. step_without_effect items sizes count h w c s q l budget a)
