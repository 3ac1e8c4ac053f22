-- The call collect, and what is common to calls with a write budget.
use Rattle.std.proofs.Common.{◌≡◌, ℕ, zero, suc, ◌<◌, ◌≤◌, Bool, true, false, cond, not, ◌&&◌, ◌||◌, eqb, ◌⊎◌, List, [], ◌∷◌, map, length, get_or, take, drop, Some as SomeOf, None, Option, sym, refl, ap, ◌∙◌, subst, inl, inr, ⊎_elim, arith}
use Rattle.std.specs.List.{AllByRecursion as All}
use Rattle.std.proofs.lemmas.Bool.{both_ways, and_parts, or_cases, not-true, ltb-false, eqb-true}
use Rattle.std.proofs.lemmas.List.{append-nil}
use Rattle.model.specs.declared.outcome.Outcome.{Outcome}
use Rattle.model.specs.declared.condition.Condition.TheVariants.{Up, Recovering}
use Rattle.model.specs.Items.{Item}
use Rattle.model.specs.Numbers.{most_nodes}
use Rattle.model.specs.Cells.{Cell}
use Rattle.model.specs.Participants.{members, participants_of, every_member}
use Rattle.model.specs.Answers.{Answer, power_failed}
use Rattle.model.specs.Journal.{Entry, oldest, past, says, no_entry, is_forced}
use Rattle.model.specs.Writes.{Stores, drop_oldest, applied_all, fails}
use Rattle.model.specs.Node.{Node, powerless}
use Rattle.model.specs.Cluster.{Cluster, node_at, with_node, sent}
use Rattle.model.specs.Handling.{Effect, collecting}
use Rattle.model.specs.Calls.{carried, is_collectable}
use Rattle.model.specs.Deeds.{wrote, wrote_by, touched, touched_by_all, yes_after, yes_by_all}
use Rattle.model.proofs.core.Lists.{every_has}
use Rattle.model.proofs.core.State as core
use Rattle.model.proofs.core.State.{Past, State, absent, present, state_with_node, node_with_entries, says_settled, in_condition, up, down}
use Rattle.model.proofs.core.Facts.{Justified}
use Rattle.model.proofs.core.Agreement.{Durable, absent_not_durable}
use Rattle.model.proofs.core.Outcomes.{present_not_absent}
use Rattle.model.proofs.core.Collect.{Droppable, droppable_no, droppable_settled, dropped, dropped_extends}
use Rattle.model.proofs.bridge.ItemEffects.{cell_at}
use Rattle.model.proofs.bridge.ItemBook.{item_book}
use Rattle.model.proofs.bridge.SerialMemories.{logged_entry}
use Rattle.model.proofs.bridge.Abstraction.{Touched, cluster_seen, node_seen, entry_seen, entries_seen, outcome_seen, condition_seen}
use Rattle.model.proofs.bridge.Tables.{EntryCopies, Open, NodeFits}
use Rattle.model.proofs.bridge.Sound.{Sound, Step, agreed}
use Rattle.model.proofs.bridge.NodeSteps.{step_node, step_node_down, step_writes_none, no_bits, wrote_others, wrote_here}

-- ## Write budgets

pub sent_nothing : (c : Cluster) → sent c [] ≡ c
sent_nothing c = ap (λ ms. record { well_made = c.well_made; nodes = c.nodes; network = ms; coordinators = c.coordinators; recoveries = c.recoveries; last_tid = c.last_tid; last_recovery = c.last_recovery }) (append-nil c.network)

module _ (items : ℕ → List Item) (sizes : ℕ → ℕ) (count : ℕ) (h : Past Cell) (w : Touched) (c : Cluster) (s : Sound items sizes count h w c) (q : ℕ) where
  abbrev B : core.Book Cell
  B = item_book items

  abbrev S : State Cell
  S = cluster_seen h w c

  abbrev st : Stores
  st = (node_at c q).stores

  -- the node at the end of a call within its budget
  abbrev pub done_node : Effect → Node
  done_node e = record { stores = applied_all e.writes st; volatile = e.volatile }

  pub step_carried : (budget : ℕ) (e : Effect) (a : Answer)
      → Step items sizes count h w c (wrote q (take budget e.writes)) (with_node c q (powerless (applied_all (take budget e.writes) st)))
      → Step items sizes count h w c (wrote q e.writes) (sent (with_node c q (done_node e)) e.sent)
      → Step items sizes count h w c (wrote_by q budget e) (carried c q budget e a).1
  unfolding carried
  step_carried budget e a torn whole = go (fails budget)
    where
      -- the node, whether or not power fails
      after : Bool → Node
      after b = cond b (powerless (applied_all (cond b (take budget e.writes) e.writes) st)) (record { stores = applied_all (cond b (take budget e.writes) e.writes) st; volatile = e.volatile })

      go : (b : Bool) → Step items sizes count h w c (wrote q (cond b (take budget e.writes) e.writes))
          (cond {A = Answer × Cluster} b (power_failed, with_node c q (after b)) (a, sent (with_node c q (after b)) e.sent)).1
      go true = torn
      go false = whole

  -- ## collect

  module _ (l : q < length c.nodes) (up_here : (node_at c q).volatile.condition ≡ Up) (e : Entry) (es : List Entry) (oldest_is : st.journal.entries ≡ e ∷ es) (ready : is_collectable q (node_at c q) ≡ true) where
    fits : NodeFits items S sizes q (node_at c q)
    fits = s.tables.nodes q l

    seen_oldest : (S.nodes q).entries ≡ entry_seen e ∷ entries_seen es
    unfolding cluster_seen
    seen_oldest = ap entries_seen oldest_is

    oldest_here : oldest st.journal ≡ e
    oldest_here = ap (λ (xs : List Entry). get_or xs 0 no_entry) oldest_is

    says_no : (o : Option Outcome) → says false o ≡ true → (d : Bool) × (outcome_seen o ≡ present false d)
    says_no None z = absurd (both_ways false refl z)
    says_no (SomeOf o) z = (o.durable, ap (λ b. present b o.durable) (not-true o.commits z))

    behind_seen : past st.journal e ≡ false → e.running ≤ (S.nodes q).pointer
    unfolding cluster_seen
    behind_seen z = ltb-false st.journal.pointer e.running z

    abbrev Why : Type 0
    Why = Droppable B S s.invariant q (entry_seen e) (entries_seen es) seen_oldest × (outcome_seen e.outcome ≡ absent → ⊥)

    why : Why
    why = ⊎_elim (λ z. no (says_no e.outcome z)) (λ z. let u = and_parts (not (past st.journal e)) _ z in settled (not-true (past st.journal e) u.0) u.1)
        (or_cases (says false e.outcome) (not (past st.journal e) && every_member (λ p. eqb p q || get_or (node_at c q).volatile.acknowledged p false) e.participants) ready')
      where
        ready' : (says false e.outcome || (not (past st.journal e) && every_member (λ p. eqb p q || get_or (node_at c q).volatile.acknowledged p false) e.participants)) ≡ true
        ready' = subst (λ (x : Entry). (says false x.outcome || (not (past st.journal x) && every_member (λ p. eqb p q || get_or (node_at c q).volatile.acknowledged p false) x.participants)) ≡ true) oldest_here ready

        no : (d : Bool) × (outcome_seen e.outcome ≡ present false d) → Why
        no (d, z) = (droppable_no B S s.invariant q (entry_seen e) (entries_seen es) seen_oldest d z, λ y. present_not_absent false d (sym z ∙ y))

        copy : e.participants ≡ participants_of (items e.tid)
        copy = (subst (All (EntryCopies items q)) oldest_is fits.entries).0.0

        other : (p : ℕ) → (eqb p q || get_or (node_at c q).volatile.acknowledged p false) ≡ true → (p ≡ q) ⊎ Justified B S (says_settled e.tid p)
        other p z = ⊎_elim (λ y. inl (eqb-true p q y)) (λ y. inr (subst (λ (x : Entry). Justified B S (says_settled x.tid p)) oldest_here (fits.acknowledged p y).1)) (or_cases (eqb p q) (get_or (node_at c q).volatile.acknowledged p false) z)

        settled : past st.journal e ≡ false → every_member (λ p. eqb p q || get_or (node_at c q).volatile.acknowledged p false) e.participants ≡ true → Why
        settled b a = (
          droppable_settled B S s.invariant q (entry_seen e) (entries_seen es) seen_oldest (behind_seen b)
              (λ p y. other p (every_has (λ p. eqb p q || get_or (node_at c q).volatile.acknowledged p false) (members (participants_of (items e.tid))) p (subst (λ ps. every_member (λ p. eqb p q || get_or (node_at c q).volatile.acknowledged p false) ps ≡ true) copy a) y)),
          λ y. absent_not_durable (outcome_seen e.outcome) y ((subst (All (λ (f : core.Entry). f.number ≤ (S.nodes q).pointer → Durable f.outcome)) seen_oldest ((agreed items sizes count h w c s).durable_behind q)).0 (behind_seen b)),
        )

    abbrev k : core.Node Cell
    k = node_with_entries (S.nodes q) (entries_seen es)

    drop_seen : node_seen (λ b. touched (wrote q (drop_oldest ∷ [])) q b (w q b)) (done_node (collecting (node_at c q))) ≡ k
    unfolding cluster_seen applied_all touched_by_all
    drop_seen = ap (λ (u : ℕ → Bool). node_seen u (done_node (collecting (node_at c q)))) (wrote_here items sizes count h w c s q (drop_oldest ∷ []))
        ∙ ap (λ (xs : List Entry). core.node (condition_seen (node_at c q).volatile.condition) (cell_at st.cells) (w q) (entries_seen (drop 1 xs)) st.journal.pointer st.journal.highest (λ t. is_forced st.journal t)) oldest_is

    no_more_yes : yes_after (wrote q (drop_oldest ∷ [])) (map logged_entry h.log) ≡ map logged_entry h.log
    unfolding yes_by_all
    no_more_yes = refl

    dropped_entries : (applied_all (drop_oldest ∷ []) st).journal.entries ≡ es
    unfolding applied_all
    dropped_entries = ap (λ (xs : List Entry). drop 1 xs) oldest_is

    still_open : (tid : ℕ) → Open items tid st.journal.entries → Open items tid es
    still_open tid x = ⊎_elim (λ z. absurd (why.1 z.1)) (λ z. z) (subst (Open items tid) oldest_is x)

    drop_fits : (t : State Cell) → NodeFits items t sizes q (done_node (collecting (node_at c q)))
    unfolding applied_all
    drop_fits t = record {
      size = fits.size;
      entries = subst (All (EntryCopies items q)) (sym dropped_entries) (subst (All (EntryCopies items q)) oldest_is fits.entries).1;
      doubts = fits.doubts;
      doubts_distinct = fits.doubts_distinct;
      doubts_open = λ u tid x. subst (Open items tid) (sym dropped_entries) (still_open tid (fits.doubts_open u tid x));
      open_doubts = λ u tid x. fits.open_doubts u tid (subst (Open items tid) (sym oldest_is) (inr (subst (Open items tid) dropped_entries x)));
      unresolved = rw (fits.none_unresolved up_here) tt;
      none_unresolved = fits.none_unresolved;
      open_unresolved = λ r. absurd (up_not_recovering (sym up_here ∙ r));
      acknowledged = λ p r. absurd (no_bits most_nodes p r);
    }
      where
        up_not_recovering : Up ≡ Recovering → ⊥
        up_not_recovering z = let y : ◌≡◌ {A = ℕ} 0 1 = cc in omega arith

    pub step_collected : Step items sizes count h w c (wrote q (drop_oldest ∷ [])) (with_node c q (done_node (collecting (node_at c q))))
    step_collected = step_node items sizes count h w c s q l (done_node (collecting (node_at c q))) (wrote q (drop_oldest ∷ [])) k (wrote_others items sizes count h w c s q (drop_oldest ∷ [])) no_more_yes drop_seen
        (dropped B S s.invariant q (entry_seen e) (entries_seen es) seen_oldest why.0) (dropped_extends B S s.invariant q (entry_seen e) (entries_seen es) seen_oldest why.0) (drop_fits (state_with_node S q k))

    -- and then power goes
    one_dropped : Step items sizes count h w c (wrote q (drop_oldest ∷ [])) (with_node c q (powerless (done_node (collecting (node_at c q))).stores))
    one_dropped = step_node_down items sizes count h w c s q l (done_node (collecting (node_at c q))) (wrote q (drop_oldest ∷ [])) k (wrote_others items sizes count h w c s q (drop_oldest ∷ [])) no_more_yes drop_seen
        (dropped B S s.invariant q (entry_seen e) (entries_seen es) seen_oldest why.0) (dropped_extends B S s.invariant q (entry_seen e) (entries_seen es) seen_oldest why.0)
        (drop_fits S).size (drop_fits S).entries

    collected_torn : (budget : ℕ) → Step items sizes count h w c (wrote q (take budget (drop_oldest ∷ []))) (with_node c q (powerless (applied_all (take budget (drop_oldest ∷ [])) st)))
    unfolding applied_all
    collected_torn zero = step_writes_none items sizes count h w c s q l
    collected_torn (suc zero) = one_dropped
    collected_torn (suc (suc f)) = one_dropped

    pub step_collects : (budget : ℕ) (a : Answer) → Step items sizes count h w c (wrote_by q budget (collecting (node_at c q))) (carried c q budget (collecting (node_at c q)) a).1
    step_collects budget a = step_carried budget (collecting (node_at c q)) a (collected_torn budget)
        (subst (Step items sizes count h w c (wrote q (drop_oldest ∷ []))) (sym (sent_nothing (with_node c q (done_node (collecting (node_at c q)))))) step_collected)
