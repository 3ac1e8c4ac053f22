-- The call resume: a recovering node replays its journal and is up.
use Rattle.std.proofs.Common.{◌≡◌, ℕ, ◌<◌, Bool, true, false, cond, not, ltb, List, [], ◌∷◌, ◌++◌, map, length, take, is_some, Some as SomeOf, None, Option, unwrap_or, sym, refl, ap, ◌∙◌, subst, ap₂, arith}
use Rattle.std.specs.List.{AllByRecursion as All}
use Rattle.std.proofs.lemmas.Bool.{not-false, lt-ltb}
use Rattle.std.proofs.lemmas.List.{map-append, take-map}
use Rattle.model.specs.declared.outcome.Outcome.{Outcome}
use Rattle.model.specs.declared.condition.Condition.TheVariants.{Up, Recovering}
use Rattle.model.specs.Items.{Item}
use Rattle.model.specs.Numbers.{most_nodes}
use Rattle.model.specs.Cells.{Cell}
use Rattle.model.specs.Lists.{joined_by}
use Rattle.model.specs.Ranges.{items_at, writes_in, is_write}
use Rattle.model.specs.Answers.{Answer}
use Rattle.model.specs.Journal.{Entry}
use Rattle.model.specs.Writes.{Write, put, applied_all}
use Rattle.model.specs.Node.{Node, Unresolved, Volatile, journal_of, cells_of, unresolved_tid, unresolved_of, no_unresolved, some_unresolved, is_open, powerless}
use Rattle.model.specs.Cluster.{Cluster, node_at, with_node}
use Rattle.model.specs.Handling.{resuming, replay_entry, replay_as, puts_if, resolution_of}
use Rattle.model.specs.Calls.{carried}
use Rattle.model.specs.Deeds.{wrote, wrote_by, touched}
use Rattle.model.proofs.core.Lists.{Some, all_map, all_two, all_append, all_take, all_some}
use Rattle.model.proofs.core.State as core
use Rattle.model.proofs.core.State.{Past, State, absent, present, state_with_node, in_condition, up, write_all, write_items}
use Rattle.model.proofs.core.Facts.{Known, OutcomeRight, EntryRight}
use Rattle.model.proofs.core.Writes.{Allowed}
use Rattle.model.proofs.core.Resume.{of_tid, is_absent, redo, redo_all, resume_writes, resume_allowed, resumed_node, resumed, resumed_extends, resumed_outcomes}
use Rattle.model.proofs.bridge.Tests.{some_none, found_is, found_all, only_all, only_passes}
use Rattle.model.proofs.bridge.ItemEffects.{Fits, item_effect}
use Rattle.model.proofs.bridge.ItemBook.{item_book}
use Rattle.model.proofs.bridge.SerialMemories.{Within, within_at, logged_entry}
use Rattle.model.proofs.bridge.WritesSeen.{Seen, write_seen, writes_length}
use Rattle.model.proofs.bridge.Abstraction.{Touched, cluster_seen, node_seen, entry_seen, entries_seen, outcome_seen}
use Rattle.model.proofs.bridge.Tables.{EntryCopies, NodeFits, UnresolvedFits}
use Rattle.model.proofs.bridge.Sound.{Sound, Step, agreed}
use Rattle.model.proofs.bridge.NodeSteps.{step_node, no_bits, wrote_others}
use Rattle.model.proofs.bridge.WriteSteps.{seen_no_yes, writes_here, entries_kept, step_torn}
use Rattle.model.proofs.bridge.Talk.{some_value}
use Rattle.model.proofs.bridge.Collect.{sent_nothing, done_node, step_carried}

-- ## The writes of a replay

-- the outcome that the node has come to
abbrev come_to : Volatile → ℕ → core.Outcome → Bool
come_to v tid absent = resolution_of v tid
come_to v tid (present b d) = b

pub all_puts : (ws : List Item) → map write_seen (map put ws) ≡ write_items (map item_effect ws)
unfolding write_items
all_puts [] = refl
all_puts (i ∷ ws) = ap (λ xs. core.item (item_effect i) ∷ xs) (all_puts ws)

pub puts_seen : (b : Bool) (ws : List Item) → map write_seen (puts_if b ws) ≡ cond b (write_items (map item_effect ws)) []
puts_seen true ws = all_puts ws
puts_seen false ws = refl

all_puts_seen : (m : ℕ) (ws : List Item) → All (λ i. (is_write i ≡ true) × Fits m i) ws → All (Seen m) (map put ws)
all_puts_seen m [] h = tt
all_puts_seen m (i ∷ ws) h = (h.0, all_puts_seen m ws h.1)

pub puts_are_seen : (m : ℕ) (b : Bool) (ws : List Item) → All (λ i. (is_write i ≡ true) × Fits m i) ws → All (Seen m) (puts_if b ws)
puts_are_seen m true ws h = all_puts_seen m ws h
puts_are_seen m false ws h = tt

module _ (items : ℕ → List Item) (q : ℕ) (v : Volatile) where
  abbrev d : core.Entry → Bool
  d e = come_to v e.tid e.outcome

  replay_seen : (n : Node) (e : Entry) → n.volatile ≡ v → EntryCopies items q e → map write_seen (replay_entry n e) ≡ redo (item_book items) q d (journal_of n).pointer (entry_seen e)
  replay_seen n e r copies = go (ltb (journal_of n).pointer e.running) e.outcome
    where
      writes_copy : map item_effect e.writes ≡ (item_book items e.tid).writes q
      writes_copy = ap (map item_effect) copies.1

      puts : (b : Bool) → map write_seen (puts_if b e.writes) ≡ cond b (write_items ((item_book items e.tid).writes q)) []
      puts b = puts_seen b e.writes ∙ ap (λ ws. cond b (write_items ws) []) writes_copy

      go : (b : Bool) (o : Option Outcome) → map write_seen (cond b (replay_as n.volatile e o) [])
          ≡ cond b (cond (is_absent (outcome_seen o)) (core.note (of_tid e.tid) (come_to v e.tid (outcome_seen o)) ∷ []) [] ++ cond (come_to v e.tid (outcome_seen o)) (write_items ((item_book items e.tid).writes q)) []) []
      go false o = refl
      go true (SomeOf o) = puts o.commits
      go true None = rw r (ap (λ ws. core.note (of_tid e.tid) (resolution_of v e.tid) ∷ ws) (puts (resolution_of v e.tid)))

  replays_seen : (n : Node) (es : List Entry) → n.volatile ≡ v → All (EntryCopies items q) es → map write_seen (joined_by (replay_entry n) es) ≡ redo_all (item_book items) q d (journal_of n).pointer (entries_seen es)
  unfolding joined_by redo_all
  replays_seen n [] r a = refl
  replays_seen n (e ∷ es) r a = map-append write_seen (replay_entry n e) (joined_by (replay_entry n) es) ∙ ap₂ (λ xs ys. xs ++ ys) (replay_seen n e r a.0) (replays_seen n es r a.1)

  -- each is one that the core sees
  module _ (m : ℕ) where
    replay_are_seen : (n : Node) (e : Entry) → All (λ i. (is_write i ≡ true) × Fits m i) e.writes → All (Seen m) (replay_entry n e)
    replay_are_seen n e h = go (ltb (journal_of n).pointer e.running) e.outcome
      where
        go : (b : Bool) (o : Option Outcome) → All (Seen m) (cond b (replay_as n.volatile e o) [])
        go false o = tt
        go true (SomeOf o) = puts_are_seen m o.commits e.writes h
        go true None = (tt, puts_are_seen m (resolution_of n.volatile e.tid) e.writes h)

    replays_are_seen : (n : Node) (es : List Entry) → All (λ (e : Entry). All (λ i. (is_write i ≡ true) × Fits m i) e.writes) es → All (Seen m) (joined_by (replay_entry n) es)
    unfolding joined_by
    replays_are_seen n [] h = tt
    replays_are_seen n (e ∷ es) h = all_append (Seen m) (replay_entry n e) (joined_by (replay_entry n) es) (replay_are_seen n e h.0) (replays_are_seen n es h.1)

-- ## The call

module _ (items : ℕ → List Item) (sizes : ℕ → ℕ) (count : ℕ) (within : (n : ℕ) → Within sizes count (items n))
    (h : Past Cell) (w : Touched) (c : Cluster) (s : Sound items sizes count h w c) (q : ℕ)
    (l : q < length c.nodes) (recovering_here : (node_at c q).volatile.condition ≡ Recovering) (all_resolved : some_unresolved (node_at c q).volatile ≡ false) where
  abbrev B : core.Book Cell
  B = item_book items

  abbrev S : State Cell
  S = cluster_seen h w c

  abbrev n : Node
  n = node_at c q

  abbrev v : Volatile
  v = n.volatile

  abbrev come : core.Entry → Bool
  come e = come_to v e.tid e.outcome

  fits : NodeFits items S sizes q n
  fits = s.tables.nodes q l

  -- what is resolved, is resolved rightly
  resolution_known : (tid : ℕ) → Some (λ (u : Unresolved). u.tid ≡ tid) v.unresolved → Known B S tid (resolution_of v tid)
  resolution_known tid x =
      let u = found_all unresolved_tid tid (UnresolvedFits items S (journal_of n)) v.unresolved no_unresolved x fits.unresolved in
      let z = found_all unresolved_tid tid (λ (u : Unresolved). not (is_some u.resolution) ≡ false) v.unresolved no_unresolved x (some_none _ v.unresolved all_resolved) in
      let o = some_value (unresolved_of v tid).resolution (not-false (is_some (unresolved_of v tid).resolution) z) in
      let r : resolution_of v tid ≡ o.0 = ap (λ (a : Option Bool). unwrap_or a false) o.1 in
      subst (Known B S tid) (sym r) (subst (λ m. Known B S m o.0) (found_is unresolved_tid tid v.unresolved no_unresolved x) (u.resolved o.0 o.1))

  entry_known : (e : Entry) (o : Option Outcome) → e.outcome ≡ o → OutcomeRight B S e.tid (outcome_seen o)
      → (is_open (journal_of n) e ≡ true → Some (λ (u : Unresolved). u.tid ≡ e.tid) v.unresolved) → (journal_of n).pointer < e.running → Known B S e.tid (come_to v e.tid (outcome_seen o))
  entry_known e (SomeOf o) r a f p = a
  entry_known e None r a f p = resolution_known e.tid (f (rw (lt-ltb (journal_of n).pointer e.running p, r) refl))

  known : All (λ e. (S.nodes q).pointer < e.number → Known B S e.tid (come e)) (S.nodes q).entries
  unfolding cluster_seen
  known = go (journal_of n).entries ((agreed items sizes count h w c s).entries q) (fits.open_unresolved recovering_here)
    where
      go : (es : List Entry) → All (EntryRight B S q) (entries_seen es) → All (λ (e : Entry). is_open (journal_of n) e ≡ true → Some (λ (u : Unresolved). u.tid ≡ e.tid) v.unresolved) es
          → All (λ (e : core.Entry). (journal_of n).pointer < e.number → Known B S e.tid (come e)) (entries_seen es)
      go [] a f = tt
      go (e ∷ es) a f = ((λ p. entry_known e e.outcome refl a.0.right f.0 p), go es a.1 f.1)

  abbrev xs : List Write
  xs = (resuming n).writes

  writes_same : map write_seen xs ≡ resume_writes B S s.invariant q come known
  unfolding cluster_seen
  writes_same = replays_seen items q v n (journal_of n).entries refl fits.entries

  seen : All (Seen (length (cells_of n))) xs
  seen = replays_are_seen items q v (length (cells_of n)) n (journal_of n).entries
      (all_map (EntryCopies items q) _ (λ e z. subst (All (λ i. (is_write i ≡ true) × Fits (length (cells_of n)) i)) (sym z.1) (fine e.tid)) (journal_of n).entries fits.entries)
    where
      fine : (tid : ℕ) → All (λ i. (is_write i ≡ true) × Fits (length (cells_of n)) i) (writes_in (items_at q (items tid)))
      fine tid = all_two _ _ _ (λ i a b. (a, b)) (writes_in (items_at q (items tid))) (only_passes is_write (items_at q (items tid)))
          (only_all (Fits (length (cells_of n))) is_write (items_at q (items tid)) (subst (λ m. All (Fits m) (items_at q (items tid))) (sym fits.size) (within_at sizes count (items tid) (within tid) q)))

  abbrev k : core.Node Cell
  k = resumed_node B S s.invariant q come known

  abbrev n' : Node
  n' = done_node items sizes count h w c s q (resuming n)

  resumed_seen : node_seen (λ b. touched (wrote q xs) q b (w q b)) n' ≡ k
  resumed_seen = writes_here items sizes count h w c s q up xs seen ∙ ap (λ (ws : List (core.Write Cell)). in_condition up (write_all (S.nodes q) ws)) writes_same

  outcomes_there : All (λ (e : core.Entry). e.outcome ≡ absent → ⊥) (entries_seen (journal_of n').entries)
  outcomes_there = subst (All (λ (e : core.Entry). e.outcome ≡ absent → ⊥)) (sym (ap (λ (m : core.Node Cell). m.entries) resumed_seen)) (resumed_outcomes B S s.invariant q come known)

  resumed_fits : (t : State Cell) → NodeFits items t sizes q n'
  resumed_fits t = record {
    size = writes_length n.stores xs ∙ fits.size;
    entries = entries_kept items sizes count h w c s q xs seen fits.entries;
    doubts = tt;
    doubts_distinct = tt;
    doubts_open = λ u tid x. absurd x;
    open_doubts = λ u tid x. absurd (all_some {A = core.Entry} (λ e. e.outcome ≡ absent → ⊥) _ ⊥ (λ e a z. a z.1) (entries_seen (journal_of n').entries) outcomes_there x);
    unresolved = tt;
    none_unresolved = λ _. refl;
    open_unresolved = λ r. absurd (up_not_recovering r);
    acknowledged = λ p r. absurd (no_bits most_nodes p r);
  }
    where
      up_not_recovering : Up ≡ Recovering → ⊥
      up_not_recovering z = let y : ◌≡◌ {A = ℕ} 0 1 = cc in omega arith

  whole : Step items sizes count h w c (wrote q xs) (with_node c q n')
  whole = step_node items sizes count h w c s q l n' (wrote q xs) k (wrote_others items sizes count h w c s q xs) (seen_no_yes (length (cells_of n)) q xs seen (map logged_entry h.log)) resumed_seen
      (resumed B S s.invariant q come known) (resumed_extends B S s.invariant q come known) (resumed_fits (state_with_node S q k))

  torn_at : (budget : ℕ) → Step items sizes count h w c (wrote q (take budget xs)) (with_node c q (powerless (applied_all (take budget xs) n.stores)))
  torn_at f = step_torn items sizes count h w c s q l (take f xs) (all_take (Seen (length (cells_of n))) f xs seen)
      (subst (All (Allowed B S s.invariant q)) (take-map write_seen f xs) (all_take (Allowed B S s.invariant q) f (map write_seen xs) (subst (All (Allowed B S s.invariant q)) (sym writes_same) (resume_allowed B S s.invariant q come known))))

  pub step_resumes : (budget : ℕ) (a : Answer) → Step items sizes count h w c (wrote_by q budget (resuming n)) (carried c q budget (resuming n) a).1
  step_resumes budget a = step_carried items sizes count h w c s q budget (resuming n) a (torn_at budget)
      (subst (Step items sizes count h w c (wrote q xs)) (sym (sent_nothing (with_node c q n'))) whole)
