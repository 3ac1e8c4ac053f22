-- The call settle: a checkpoint of one node.
use Rattle.std.proofs.Common.{◌≡◌, ℕ, zero, suc, ◌<◌, Bool, true, false, eqb, List, [], ◌∷◌, map, length, get_or, take, Some as SomeOf, None, Option, sym, refl, ap, ◌∙◌, subst, ap₂, inl, inr, arith}
use Rattle.std.specs.List.{AllByRecursion as All}
use Rattle.std.specs.Option.{option_map}
use Rattle.std.proofs.lemmas.Bool.{both_ways}
use Rattle.std.proofs.lemmas.List.{length-map}
use Rattle.model.specs.declared.outcome.Outcome.{Outcome}
use Rattle.model.specs.declared.condition.Condition.TheVariants.{Up, Recovering}
use Rattle.model.specs.Items.{Item}
use Rattle.model.specs.Cells.{Cell}
use Rattle.model.specs.Lists.{stands}
use Rattle.model.specs.Answers.{Answer}
use Rattle.model.specs.Journal.{Entry, no_entry, made_durable, durably, is_forced, with_outcome}
use Rattle.model.specs.Writes.{Stores, Write, flush_memory, flush_journal, applied_all}
use Rattle.model.specs.Node.{Node, Volatile, is_in_doubt, doubt_tid, powerless}
use Rattle.model.specs.Cluster.{Cluster, node_at, with_node}
use Rattle.model.specs.Handling.{settling, checkpoint_of}
use Rattle.model.specs.Calls.{carried}
use Rattle.model.specs.Deeds.{wrote, wrote_by, touched, touched_by_all, yes_after, yes_by_all}
use Rattle.model.proofs.core.Lists.{all_map, all_some, all_self, some_map}
use Rattle.model.proofs.core.State as core
use Rattle.model.proofs.core.State.{Past, State, absent, present, state_with_node, outcomes, says_settled, up, write_all}
use Rattle.model.proofs.core.Facts.{Justified, Extends}
use Rattle.model.proofs.core.Memories.{Invariant}
use Rattle.model.proofs.core.Outcomes.{present_not_absent}
use Rattle.model.proofs.core.Finish.{doubt_only}
use Rattle.model.proofs.core.Checkpoint.{pointer_kept_at, Finds, checkpointed_node, checkpointed, checkpointed_extends}
use Rattle.model.proofs.bridge.Tests.{stands_some, some_stands}
use Rattle.model.proofs.bridge.ItemEffects.{cell_at}
use Rattle.model.proofs.bridge.ItemBook.{item_book}
use Rattle.model.proofs.bridge.SerialMemories.{logged_entry}
use Rattle.model.proofs.bridge.WritesSeen.{flushed_entries}
use Rattle.model.proofs.bridge.Abstraction.{Touched, cluster_seen, node_seen, entries_seen, outcome_seen, condition_seen}
use Rattle.model.proofs.bridge.Tables.{EntryCopies, Open, NodeFits, node_stays}
use Rattle.model.proofs.bridge.Sound.{Sound, Step}
use Rattle.model.proofs.bridge.NodeSteps.{step_node, step_node_down, wrote_others, wrote_here}
use Rattle.model.proofs.bridge.WriteSteps.{step_torn}
use Rattle.model.proofs.bridge.Collect.{sent_nothing, done_node, step_carried}

-- ## Flushing the journal

open_flushed : (items : ℕ → List Item) (tid : ℕ) (es : List Entry) → Open items tid es → Open items tid (map made_durable es)
open_flushed items tid [] x = x
open_flushed items tid (e ∷ es) (inl x) = inl (x.0, go e.outcome x.1)
  where
    go : (o : Option Outcome) → outcome_seen o ≡ absent → outcome_seen (option_map (λ (o : Outcome). durably o.commits) o) ≡ absent
    go None z = refl
    go (SomeOf o) z = absurd (present_not_absent o.commits o.durable z)
open_flushed items tid (e ∷ es) (inr x) = inr (open_flushed items tid es x)

flushed_open : (items : ℕ → List Item) (tid : ℕ) (es : List Entry) → Open items tid (map made_durable es) → Open items tid es
flushed_open items tid [] x = x
flushed_open items tid (e ∷ es) (inl x) = inl (x.0, go e.outcome x.1)
  where
    go : (o : Option Outcome) → outcome_seen (option_map (λ (o : Outcome). durably o.commits) o) ≡ absent → outcome_seen o ≡ absent
    go None z = refl
    go (SomeOf o) z = absurd (present_not_absent o.commits true z)
flushed_open items tid (e ∷ es) (inr x) = inr (flushed_open items tid es x)

flushed_all : (P : Entry → Type 0) → ((e : Entry) (o : Option Outcome) → P e → P (with_outcome e o)) → (es : List Entry) → All P es → All P (map made_durable es)
flushed_all P f [] h = tt
flushed_all P f (e ∷ es) h = (f e _ h.0, flushed_all P f es h.1)

flushed_empty : (es : List Entry) → eqb (length (map made_durable es)) 0 ≡ eqb (length es) 0
flushed_empty [] = refl
flushed_empty (e ∷ es) = ap (λ n. eqb (suc n) 0) (length-map es made_durable)

flushed_oldest : (es : List Entry) → (get_or (map made_durable es) 0 no_entry).tid ≡ (get_or es 0 no_entry).tid
flushed_oldest [] = refl
flushed_oldest (e ∷ es) = refl

-- ## The checkpoint

checkpoint_same : (v : Volatile) (g : ℕ) (es : List Entry) → checkpoint_of v g es ≡ pointer_kept_at (λ e. is_in_doubt v e.tid) g (entries_seen es)
unfolding checkpoint_of pointer_kept_at
checkpoint_same v g [] = refl
checkpoint_same v g (e ∷ es) = rw (checkpoint_same v g es) refl

module _ (items : ℕ → List Item) (sizes : ℕ → ℕ) (count : ℕ) (h : Past Cell) (w : Touched) (c : Cluster) (s : Sound items sizes count h w c) (q : ℕ)
    (l : q < length c.nodes) (up_here : (node_at c q).volatile.condition ≡ Up) where
  abbrev B : core.Book Cell
  B = item_book items

  abbrev S : State Cell
  S = cluster_seen h w c

  abbrev st : Stores
  st = (node_at c q).stores

  abbrev v : Volatile
  v = (node_at c q).volatile

  abbrev test : core.Entry → Bool
  test e = is_in_doubt v e.tid

  fits : NodeFits items S sizes q (node_at c q)
  fits = s.tables.nodes q l

  finds : Finds test (S.nodes q).entries
  unfolding cluster_seen
  finds = all_map _ _
      (λ e x. (
        (λ t. let d = fits.doubts_open up_here e.tid (stands_some doubt_tid e.tid v.in_doubt t) in
            all_some {A = core.Entry} (λ f. f.tid ≡ e.tid → f.outcome ≡ absent) (λ f. f ≡ e) (e.outcome ≡ absent)
            (λ f a r. ap (λ (g : core.Entry). g.outcome) (sym r) ∙ a (ap (λ (g : core.Entry). g.tid) r)) (entries_seen st.journal.entries) (doubt_only B S s.invariant q e.tid d) x),
        (λ t a. both_ways (stands doubt_tid e.tid v.in_doubt) t
            (some_stands doubt_tid e.tid v.in_doubt (fits.open_doubts up_here e.tid (some_map _ _ (λ f r. (ap (λ (g : core.Entry). g.tid) r, ap (λ (g : core.Entry). g.outcome) r ∙ a)) (entries_seen st.journal.entries) x)))),
      ))
      (entries_seen st.journal.entries) (all_self (entries_seen st.journal.entries))

  seen_up : (S.nodes q).condition ≡ up
  unfolding cluster_seen
  seen_up = ap condition_seen up_here

  abbrev k : core.Node Cell
  k = checkpointed_node B S s.invariant q test finds seen_up

  abbrev xs : List Write
  xs = (settling (node_at c q)).writes

  abbrev n : Node
  n = done_node items sizes count h w c s q (settling (node_at c q))

  settled_seen : node_seen (λ b. touched (wrote q xs) q b (w q b)) n ≡ k
  unfolding cluster_seen applied_all touched_by_all write_all core.write
  settled_seen = ap (λ (u : ℕ → Bool). node_seen u n) (wrote_here items sizes count h w c s q xs)
      ∙ ap₂ (λ (es : List core.Entry) (p : ℕ). core.node (condition_seen v.condition) (cell_at st.cells) (λ b. false) es p st.journal.highest (λ t. is_forced st.journal t))
      (flushed_entries st.journal.entries) (checkpoint_same v st.journal.highest st.journal.entries)

  no_more_yes : yes_after (wrote q xs) (map logged_entry h.log) ≡ map logged_entry h.log
  unfolding yes_by_all
  no_more_yes = refl

  i' : Invariant B (state_with_node S q k)
  i' = checkpointed B S s.invariant q test finds seen_up

  x' : Extends B S (state_with_node S q k)
  x' = checkpointed_extends B S s.invariant q test finds seen_up

  copies : All (EntryCopies items q) (map made_durable st.journal.entries)
  copies = flushed_all (EntryCopies items q) (λ e o z. z) st.journal.entries fits.entries

  settled_fits : NodeFits items (state_with_node S q k) sizes q n
  unfolding applied_all
  settled_fits =
      let f = node_stays items S (state_with_node S q k) x' sizes q (node_at c q) fits in
      record {
        size = f.size;
        entries = copies;
        doubts = f.doubts;
        doubts_distinct = f.doubts_distinct;
        doubts_open = λ u tid x. open_flushed items tid st.journal.entries (f.doubts_open u tid x);
        open_doubts = λ u tid x. f.open_doubts u tid (flushed_open items tid st.journal.entries x);
        unresolved = rw (f.none_unresolved up_here) tt;
        none_unresolved = f.none_unresolved;
        open_unresolved = λ r. absurd (up_not_recovering (sym up_here ∙ r));
        acknowledged = λ p r. (flushed_empty st.journal.entries ∙ (f.acknowledged p r).0, subst (λ m. Justified B (state_with_node S q k) (says_settled m p)) (sym (flushed_oldest st.journal.entries)) (f.acknowledged p r).1);
      }
    where
      up_not_recovering : Up ≡ Recovering → ⊥
      up_not_recovering z = let y : ◌≡◌ {A = ℕ} 0 1 = cc in omega arith

  whole : Step items sizes count h w c (wrote q xs) (with_node c q n)
  whole = step_node items sizes count h w c s q l n (wrote q xs) k (wrote_others items sizes count h w c s q xs) no_more_yes settled_seen i' x' settled_fits

  whole_down : Step items sizes count h w c (wrote q xs) (with_node c q (powerless n.stores))
  whole_down = step_node_down items sizes count h w c s q l n (wrote q xs) k (wrote_others items sizes count h w c s q xs) no_more_yes settled_seen i' x' settled_fits.size settled_fits.entries

  torn_at : (budget : ℕ) → Step items sizes count h w c (wrote q (take budget xs)) (with_node c q (powerless (applied_all (take budget xs) st)))
  torn_at zero = step_torn items sizes count h w c s q l [] tt tt
  torn_at (suc zero) = step_torn items sizes count h w c s q l (flush_memory ∷ []) (tt, tt) (tt, tt)
  torn_at (suc (suc zero)) = step_torn items sizes count h w c s q l (flush_memory ∷ flush_journal ∷ []) (tt, (tt, tt)) (tt, (tt, tt))
  torn_at (suc (suc (suc zero))) = whole_down
  torn_at (suc (suc (suc (suc f)))) = whole_down

  pub step_settles : (budget : ℕ) (a : Answer) → Step items sizes count h w c (wrote_by q budget (settling (node_at c q))) (carried c q budget (settling (node_at c q)) a).1
  step_settles budget a = step_carried items sizes count h w c s q budget (settling (node_at c q)) a (torn_at budget)
      (subst (Step items sizes count h w c (wrote q xs)) (sym (sent_nothing (with_node c q n))) whole)
