-- A node that is up takes a prepare: it votes yes with an entry, or never will.
use Rattle.std.proofs.Common.{◌≡◌, ℕ, zero, suc, ◌+◌, ◌<◌, Bool, true, false, cond, not, eqb, ◌⊎◌, List, [], ◌∷◌, ◌++◌, map, length, get_or, take, set, sym, refl, ap, ◌∙◌, subst, ap₂, inl, inr, ⊎_elim, add-one, arith}
use mathlib.Core.Path.{fun_ext}
use Rattle.std.specs.List.{remove, AllByRecursion as All}
use Rattle.std.proofs.lemmas.Bool.{cases_eq, both_ways, or_parts, not-true, not-false, ne_eqb, cond_both}
use Rattle.std.proofs.lemmas.List.{map-append, get_or-set_same, get_or-set_other, length-set, set-set}
use Rattle.model.specs.declared.condition.Condition.TheVariants.{Up, Recovering}
use Rattle.model.specs.declared.party.Party.TheVariants.{Coordinator as CoordinatorParty}
use Rattle.model.specs.declared.vote.Vote.{Vote}
use Rattle.model.specs.declared.vote.Vote.TheVariants.{Yes, Busy, Forced, Mismatch, Full}
use Rattle.model.specs.Items.{Item}
use Rattle.model.specs.Cells.{Cell}
use Rattle.model.specs.Lists.{every}
use Rattle.model.specs.Ranges.{items_at, writes_in, all_hold, read_items, clashing}
use Rattle.model.specs.Participants.{participants_of}
use Rattle.model.specs.Messages.{Message, voted}
use Rattle.model.specs.Answers.{Answer, power_failed}
use Rattle.model.specs.Journal.{Entry, Journal, is_forced, may_vote_yes, is_full, no_entry, next_entry}
use Rattle.model.specs.Writes.{Stores, Write, add_entry, applied_all, fails}
use Rattle.model.specs.Node.{Node, no_node, Doubt, Volatile, journal_of, cells_of, is_locked, powerless}
use Rattle.model.specs.Cluster.{Cluster, node_at, with_node, sent, is_yes}
use Rattle.model.specs.Handling.{Effect, sending, from, is_crowded, prepared_as, prepared, doubting}
use Rattle.model.specs.Calls.{carried, without_message}
use Rattle.model.specs.Deeds as deeds
use Rattle.model.specs.Deeds.{Deed, wrote, wrote_by, touched, touched_by_all, yes_after, yes_by_all}
use Rattle.model.proofs.core.Lists.{Some, At, update, update_same, update_other, all_map, all_two, all_push, all_append, all_some, all_self, some_left, some_push, some_map, pairs_push}
use Rattle.model.proofs.core.State as core
use Rattle.model.proofs.core.State.{Claim, says_prepare, says_vote, Past, State, absent, prepares, prepares_in, state_with_node, in_condition, up, down, accept, with_yes, with_new_entry, saw_at, Conflict}
use Rattle.model.proofs.core.Facts.{not_closed, Justified, Dead, Extends, extends_trans}
use Rattle.model.proofs.core.Agreement.{standing_voted}
use Rattle.model.proofs.core.Memories.{Invariant}
use Rattle.model.proofs.core.Network.{prepares_at}
use Rattle.model.proofs.core.Log.{seen_here}
use Rattle.model.proofs.core.YesEntry.{CanVoteYes, not_yet}
use Rattle.model.proofs.core.Moves.{accepted, accepted_extends}
use Rattle.model.proofs.core.Justify.{refused_dead, accepted_vote}
use Rattle.model.proofs.bridge.Tests.{some_none}
use Rattle.model.proofs.bridge.ItemEffects.{cell_at, Fits, holds_of, all_hold_cells, items_read, reads_cells}
use Rattle.model.proofs.bridge.ItemBook.{item_book, conflict_clashes}
use Rattle.model.proofs.bridge.SerialMemories.{Within, within_at, logged_entry}
use Rattle.model.proofs.bridge.Abstraction.{Touched, cluster_seen, node_seen, entry_seen, entries_seen, condition_seen, claim_of, map_removed}
use Rattle.model.proofs.bridge.Tables.{EntryCopies, DoubtCopies, Open, NodeFits, tables_stay, node_stays}
use Rattle.model.proofs.bridge.Sound.{Sound, Step, agreed, claims_justified, all_removed, lost_seen, lost_sound, after_loss}
use Rattle.model.proofs.bridge.NodeSteps.{step_writes_none, step_cuts, wrote_others, wrote_here}
use Rattle.model.proofs.bridge.Talk.{step_sends}
use Rattle.model.proofs.bridge.Quiet.{step_quiet}

some_split : {A : Type 0} (P : A → Type 0) (xs : List A) (y : A) → Some P (xs ++ y ∷ []) → Some P xs ⊎ P y
some_split P [] y (inl p) = inr p
some_split P [] y (inr p) = absurd p
some_split P (x ∷ xs) y (inl p) = inl (inl p)
some_split P (x ∷ xs) y (inr p) = ⊎_elim (λ z. inl (inr z)) inr (some_split P xs y p)

push_oldest : (es : List Entry) (x : Entry) → eqb (length es) 0 ≡ false → (eqb (length (es ++ x ∷ [])) 0 ≡ false) × (get_or (es ++ x ∷ []) 0 no_entry ≡ get_or es 0 no_entry)
push_oldest [] x h = absurd (both_ways true h refl)
push_oldest (e ∷ es) x h = (ne_eqb (suc (length (es ++ x ∷ []))) 0 (λ z. omega arith), refl)

up_not_recovering : Up ≡ Recovering → ⊥
up_not_recovering z = let y : ◌≡◌ {A = ℕ} 0 1 = cc in omega arith

-- ## No

module _ (items : ℕ → List Item) (sizes : ℕ → ℕ) (count : ℕ) (h : Past Cell) (w : Touched) (c : Cluster) (s : Sound items sizes count h w c) (i tid q : ℕ)
    (there : At i (cluster_seen h w c).network (says_prepare tid q)) where
  abbrev B₀ : core.Book Cell
  B₀ = item_book items

  -- the node will never vote yes
  pub refused : Dead B₀ (cluster_seen h w (without_message c i)) tid
  refused = subst (λ (t : State Cell). Dead B₀ t tid) (sym (lost_seen items sizes count h w c s i)) (refused_dead B₀ (cluster_seen h w c) (agreed items sizes count h w c s) i tid q there)

  pub step_refused : (budget : ℕ) (a : Answer) (v : Vote) → is_yes v ≡ false → q < length c.nodes
      → Step items sizes count h w (without_message c i) (wrote_by q budget (sending (node_at c q) (from q tid CoordinatorParty (voted v []))))
      (carried (without_message c i) q budget (sending (node_at c q) (from q tid CoordinatorParty (voted v []))) a).1
  unfolding prepares prepares_in
  step_refused budget a v not_yes l =
      step_quiet items sizes count h w (without_message c i) (lost_sound items sizes count h w c s i) q l budget a (node_at c q).volatile (from q tid CoordinatorParty (voted v []) ∷ []) refl
      ((lost_sound items sizes count h w c s i).tables.nodes q l) (λ _ _. omega arith)
      (subst (λ b. Justified B₀ (cluster_seen h w (without_message c i)) (says_vote tid q b)) (sym not_yes) refused, tt)
      ((λ y. absurd (both_ways (is_yes v) not_yes y)), tt)

-- ## Yes

module _ (items : ℕ → List Item) (sizes : ℕ → ℕ) (count : ℕ) (within : (n : ℕ) → Within sizes count (items n))
    (h : Past Cell) (w : Touched) (c : Cluster) (s : Sound items sizes count h w c) (i tid q : ℕ)
    (there : At i (cluster_seen h w c).network (says_prepare tid q)) (l : q < length c.nodes) (up_here : (node_at c q).volatile.condition ≡ Up)
    (ps : ℕ) (is : List Item) (ps_copy : ps ≡ participants_of (items tid)) (is_copy : is ≡ items_at q (items tid)) where
  abbrev B : core.Book Cell
  B = item_book items

  abbrev S : State Cell
  S = cluster_seen h w c

  abbrev n : Node
  n = node_at c q

  abbrev v : Volatile
  v = n.volatile

  fits : NodeFits items S sizes q n
  fits = s.tables.nodes q l

  seen_up : (S.nodes q).condition ≡ up
  unfolding cluster_seen
  seen_up = ap condition_seen up_here

  fit_here : All (Fits (length (cells_of n))) is
  fit_here = subst (All (Fits (length (cells_of n)))) (sym is_copy) (subst (λ m. All (Fits m) (items_at q (items tid))) (sym fits.size) (within_at sizes count (items tid) (within tid) q))

  -- ### Why it may

  module _ (unlocked : is_locked v is ≡ false) (unforced : is_forced (journal_of n) tid ≡ false) (matches : all_hold (cells_of n) is ≡ true) (room : is_full (journal_of n) ≡ false) where
    apart : All (λ (e : core.Entry). e.outcome ≡ absent → Conflict B q e.tid tid → ⊥) (S.nodes q).entries
    unfolding cluster_seen
    apart = all_map _ _ (λ e x o k. bad e.tid (fits.open_doubts up_here e.tid (some_map _ _ (λ f r. (ap (λ (g : core.Entry). g.tid) r, ap (λ (g : core.Entry). g.outcome) r ∙ o)) (entries_seen (journal_of n).entries) x)) k)
        (entries_seen (journal_of n).entries) (all_self (entries_seen (journal_of n).entries))
      where
        bad : (m : ℕ) → Some (λ (d : Doubt). d.tid ≡ m) v.in_doubt → Conflict B q m tid → ⊥
        bad m x k = all_some {A = Doubt} (λ d. (clashing d.items is ≡ false) × (d.items ≡ items_at q (items d.tid))) (λ d. d.tid ≡ m) ⊥
            (λ d a e. both_ways (clashing d.items is) a.0 (ap₂ clashing (a.1 ∙ ap (λ z. items_at q (items z)) e) is_copy ∙ conflict_clashes items q m tid k))
            v.in_doubt (all_two _ _ _ (λ d a b. (a, b.1)) v.in_doubt (some_none _ v.in_doubt unlocked) fits.doubts) x

    unforced_seen : (S.nodes q).forced tid ≡ false
    unfolding cluster_seen
    unforced_seen = unforced

    matched : (B tid).agrees q (S.nodes q).memory ≡ true
    unfolding cluster_seen
    matched = subst (λ js. every (holds_of (cell_at (cells_of n))) js ≡ true) is_copy (sym (all_hold_cells (cells_of n) is fit_here) ∙ matches)

    can : CanVoteYes B S i tid q
    can = record {
      there = there;
      not_closed = not_closed S tid q (omega (arith, prepares_at tid q i S.network there)) unforced_seen;
      apart = apart;
      matched = matched;
    }

    -- ### The cluster with the entry

    abbrev h' : Past Cell
    h' = with_yes h tid q (cell_at (cells_of n))

    abbrev xs : List Write
    xs = add_entry tid ps (writes_in is) ∷ []

    abbrev w' : Touched
    w' p b = touched (wrote q xs) p b (w p b)

    abbrev j' : Journal
    j' = record { entries = (journal_of n).entries ++ next_entry (journal_of n) tid ps (writes_in is) ∷ []; forced = (journal_of n).forced; pointer = (journal_of n).pointer; highest = (journal_of n).highest + 1; capacity = (journal_of n).capacity }

    abbrev n' : Volatile → Node
    n' u = record { stores = record { cells = cells_of n; journal = j' }; volatile = u }

    added_stores : applied_all xs n.stores ≡ (n' v).stores
    unfolding applied_all
    added_stores = rw room refl

    abbrev c' : Volatile → Cluster
    c' u = with_node (without_message c i) q (n' u)

    entry_added : entries_seen ((journal_of n).entries ++ next_entry (journal_of n) tid ps (writes_in is) ∷ []) ≡ entries_seen (journal_of n).entries ++ (record { number = suc (journal_of n).highest; tid = tid; outcome = absent }) ∷ []
    entry_added = map-append entry_seen (journal_of n).entries (next_entry (journal_of n) tid ps (writes_in is) ∷ [])
        ∙ ap (λ m. entries_seen (journal_of n).entries ++ (record { number = m; tid = tid; outcome = absent }) ∷ []) (add-one (journal_of n).highest)

    node_added : (u : Volatile) → u.condition ≡ v.condition → node_seen (w' q) (n' u) ≡ with_new_entry (node_seen (w q) n) tid
    unfolding touched_by_all
    node_added u e = ap (λ (z : ℕ → Bool). node_seen z (n' u)) (wrote_here items sizes count h w c s q xs)
        ∙ rw e (ap₂ (λ (es : List core.Entry) (g : ℕ). core.node (condition_seen v.condition) (cell_at (cells_of n)) (w q) es (journal_of n).pointer g (λ t. is_forced (journal_of n) t)) entry_added (add-one (journal_of n).highest))

    seen_accepted : (u : Volatile) → u.condition ≡ v.condition → cluster_seen h' w' (c' u) ≡ accept S i tid q
    unfolding cluster_seen
    seen_accepted u e = ap₂ (λ (f : ℕ → core.Node Cell) (ms : List Claim). record { nodes = f; network = ms; notes = []; next = c.last_tid + 1; past = h' }) (fun_ext (λ p. go p (cases_eq p q))) (map_removed claim_of i c.network)
      where
        go : (p : ℕ) → ((p ≡ q) ⊎ (p ≡ q → ⊥)) → node_seen (w' p) (get_or (set c.nodes q (n' u)) p no_node) ≡ update (λ p. node_seen (w p) (node_at c p)) q (with_new_entry (node_seen (w q) (node_at c q)) tid) p
        go p (inl r) = rw (r, get_or-set_same c.nodes q (n' u) no_node l, update_same (λ p. node_seen (w p) (node_at c p)) q (with_new_entry (node_seen (w q) (node_at c q)) tid)) (node_added u e)
        go p (inr r) = rw (get_or-set_other c.nodes q p (n' u) no_node r, update_other (λ p. node_seen (w p) (node_at c p)) q (with_new_entry (node_seen (w q) (node_at c q)) tid) p r, wrote_others items sizes count h w c s q xs p r) refl

    abbrev u : Volatile
    u = doubting v tid ps is

    abbrev S' : State Cell
    S' = cluster_seen h' w' (c' u)

    x' : Extends B S S'
    x' = subst (Extends B S) (sym (seen_accepted u refl)) (accepted_extends B S s.invariant i tid q can)

    -- ### The node fits

    fresh : Some (λ (d : Doubt). d.tid ≡ tid) v.in_doubt → ⊥
    unfolding cluster_seen
    fresh x = not_yet B S (agreed items sizes count h w c s) i tid q can (standing_voted B S (agreed items sizes count h w c s) tid q (some_map _ _ (λ e z. z.0) (entries_seen (journal_of n).entries) (fits.doubts_open up_here tid x)))

    abbrev new_doubt : Doubt
    new_doubt = record { tid = tid; participants = ps; items = is }

    old_open : (m : ℕ) → Open items m (journal_of n).entries → Open items m j'.entries
    old_open m x = subst (Some (λ (e : core.Entry). (e.tid ≡ m) × (e.outcome ≡ absent))) (sym entry_added) (some_left _ (entries_seen (journal_of n).entries) _ x)

    new_open : (m : ℕ) → tid ≡ m → Open items m j'.entries
    new_open m e = subst (Some (λ (f : core.Entry). (f.tid ≡ m) × (f.outcome ≡ absent))) (sym entry_added) (some_push _ (entries_seen (journal_of n).entries) _ (e, refl))

    open_split : (m : ℕ) → Open items m j'.entries → Open items m (journal_of n).entries ⊎ (tid ≡ m)
    open_split m x = ⊎_elim inl (λ z. inr z.0) (some_split (λ (f : core.Entry). (f.tid ≡ m) × (f.outcome ≡ absent)) (entries_seen (journal_of n).entries) _ (subst (Some (λ (f : core.Entry). (f.tid ≡ m) × (f.outcome ≡ absent))) entry_added x))

    accepted_fits : NodeFits items S' sizes q (n' u)
    accepted_fits =
        let f = node_stays items S S' x' sizes q n fits in
        record {
          size = f.size;
          entries = all_push (EntryCopies items q) (journal_of n).entries _ f.entries (ps_copy, ap writes_in is_copy);
          doubts = all_push (DoubtCopies items q) v.in_doubt new_doubt f.doubts (ps_copy, is_copy);
          doubts_distinct = pairs_push _ v.in_doubt new_doubt f.doubts_distinct (none_of v.in_doubt fresh);
          doubts_open = λ _ m x. ⊎_elim (λ z. old_open m (f.doubts_open up_here m z)) (λ z. new_open m z) (some_split (λ (d : Doubt). d.tid ≡ m) v.in_doubt new_doubt x);
          open_doubts = λ _ m x. ⊎_elim (λ z. some_left _ v.in_doubt _ (f.open_doubts up_here m z)) (λ z. some_push _ v.in_doubt new_doubt z) (open_split m x);
          unresolved = rw (f.none_unresolved up_here) tt;
          none_unresolved = λ _. f.none_unresolved up_here;
          open_unresolved = λ r. absurd (up_not_recovering (sym up_here ∙ r));
          acknowledged = λ p r. let a = f.acknowledged p r in let o = push_oldest (journal_of n).entries (next_entry (journal_of n) tid ps (writes_in is)) a.0 in
              (o.0, subst (λ (e : Entry). Justified B S' (core.says_settled e.tid p)) (sym o.1) a.1);
        }
      where
        none_of : (ds : List Doubt) → (Some (λ (d : Doubt). d.tid ≡ tid) ds → ⊥) → All (λ (d : Doubt). d.tid ≡ tid → ⊥) ds
        none_of [] g = tt
        none_of (d ∷ ds) g = ((λ z. g (inl z)), none_of ds (λ z. g (inr z)))

    sound' : Sound items sizes count h' w' (c' u)
    sound' =
        let f = tables_stay items S S' x' sizes count c (claims_justified items sizes count h w c s) s.tables in
        record {
          invariant = subst (Invariant B) (sym (seen_accepted u refl)) (accepted B S s.invariant i tid q can seen_up);
          tables = record { number = length-set c.nodes q (n' u) ∙ s.tables.number; nodes = nodes'; coordinators = f.coordinators; recoveries = f.recoveries; messages = all_removed _ i c.network f.messages };
        }
      where
        nodes' : (p : ℕ) → p < length (c' u).nodes → NodeFits items S' sizes p (node_at (c' u) p)
        nodes' p lp = go (cases_eq p q)
          where
            go : ((p ≡ q) ⊎ (p ≡ q → ⊥)) → NodeFits items S' sizes p (node_at (c' u) p)
            go (inl e) = subst (λ z. NodeFits items S' sizes z (get_or (set c.nodes q (n' u)) z no_node)) (sym e) (subst (NodeFits items S' sizes q) (sym (get_or-set_same c.nodes q (n' u) no_node l)) accepted_fits)
            go (inr e) = subst (NodeFits items S' sizes p) (sym (get_or-set_other c.nodes q p (n' u) no_node e)) (node_stays items S S' x' sizes p (node_at c p) (s.tables.nodes p (subst (λ m. p < m) (length-set c.nodes q (n' u)) lp)))

    grown : map logged_entry h'.log ≡ yes_after (wrote q xs) (map logged_entry h.log)
    unfolding yes_by_all
    grown = refl

    -- ### The vote

    reads_seen : read_items (cells_of n) is ≡ items_read (saw_at S' tid q) (items_at q (items tid))
    unfolding cluster_seen
    reads_seen = reads_cells (cells_of n) is fit_here ∙ ap₂ (λ (m : ℕ → Cell) (js : List Item). items_read m js) (sym (seen_here h.log tid q (cell_at (cells_of n)) h.made)) is_copy

    vote_justified : Justified B S' (says_vote tid q true)
    vote_justified = subst (λ (t : State Cell). Justified B t (says_vote tid q true)) (sym (seen_accepted u refl)) (accepted_vote B S i tid q)

    abbrev ballot : Message
    ballot = from q tid CoordinatorParty (voted Yes (read_items (cells_of n) is))

    voting : Step items sizes count h' w' (c' u) deeds.nothing (sent (c' u) (ballot ∷ []))
    unfolding prepares prepares_in
    voting = step_sends items sizes count h' w' (c' u) sound' (ballot ∷ []) c.coordinators c.recoveries c.last_recovery (λ _ _. omega arith) (vote_justified, tt)
        sound'.tables.coordinators sound'.tables.recoveries (all_append _ (remove c.network i) _ sound'.tables.messages ((λ _. reads_seen), tt))

    pub whole_yes : Step items sizes count h w c (wrote q xs) (sent (c' u) (ballot ∷ []))
    whole_yes = record { past = voting.past; sound = voting.sound; extends = extends_trans B S S' _ x' voting.extends; log = voting.log ∙ grown; made = voting.made }

    -- ### Power fails

    cutting : Step items sizes count h' w' (c' u) deeds.nothing (with_node (c' u) q (powerless (node_at (c' u) q).stores))
    cutting = step_cuts items sizes count h' w' (c' u) sound' q (subst (λ m. q < m) (sym (length-set c.nodes q (n' u))) l)

    cut_twice : with_node (c' u) q (powerless (node_at (c' u) q).stores) ≡ with_node (without_message c i) q (powerless (n' v).stores)
    cut_twice = ap (λ (ns : List Node). record { well_made = c.well_made; nodes = ns; network = remove c.network i; coordinators = c.coordinators; recoveries = c.recoveries; last_tid = c.last_tid; last_recovery = c.last_recovery })
        (ap (λ (m : Node). set (set c.nodes q (n' u)) q (powerless m.stores)) (get_or-set_same c.nodes q (n' u) no_node l) ∙ set-set c.nodes q (n' u) (powerless (n' u).stores))

    yes_down : Step items sizes count h w c (wrote q xs) (with_node (without_message c i) q (powerless (applied_all xs n.stores)))
    yes_down = subst (λ (st : Stores). Step items sizes count h w c (wrote q xs) (with_node (without_message c i) q (powerless st))) (sym added_stores)
        (subst (Step items sizes count h w c (wrote q xs)) cut_twice (record { past = cutting.past; sound = cutting.sound; extends = extends_trans B S S' _ x' cutting.extends; log = cutting.log ∙ grown; made = cutting.made }))

    abbrev effect : Effect
    effect = record { writes = xs; volatile = u; sent = ballot ∷ [] }

    pub yes_torn : (budget : ℕ) → Step items sizes count h w c (wrote q (take budget xs)) (with_node (without_message c i) q (powerless (applied_all (take budget xs) n.stores)))
    unfolding applied_all
    yes_torn zero = after_loss items sizes count h w c s i (wrote q []) _ (step_writes_none items sizes count h w (without_message c i) (lost_sound items sizes count h w c s i) q l)
    yes_torn (suc zero) = yes_down
    yes_torn (suc (suc f)) = yes_down

    pub step_accepted : (budget : ℕ) (a : Answer) → Step items sizes count h w c (wrote_by q budget effect) (carried (without_message c i) q budget effect a).1
    unfolding carried
    step_accepted budget a = go (fails budget)
      where
        after : Bool → Node
        after b = cond b (powerless (applied_all (cond b (take budget xs) xs) n.stores)) (record { stores = applied_all (cond b (take budget xs) xs) n.stores; volatile = u })

        go : (b : Bool) → Step items sizes count h w c (wrote q (cond b (take budget xs) xs))
            (cond {A = Answer × Cluster} b (power_failed, with_node (without_message c i) q (after b)) (a, sent (with_node (without_message c i) q (after b)) (ballot ∷ []))).1
        go true = yes_torn budget
        go false = subst (λ (st : Stores). Step items sizes count h w c (wrote q xs) (sent (with_node (without_message c i) q (record { stores = st; volatile = u })) (ballot ∷ []))) (sym added_stores) whole_yes

  pub step_prepared : (budget : ℕ) (a : Answer) → Step items sizes count h w c (wrote_by q budget (prepared q n tid ps is)) (carried (without_message c i) q budget (prepared q n tid ps is) a).1
  step_prepared budget a =
      cond_both (is_locked v is) _ _ P (λ _. no_vote Busy refl)
      (λ k. cond_both (not (may_vote_yes (journal_of n) tid)) _ _ P (λ _. no_vote Forced refl)
      (λ f. cond_both (not (all_hold (cells_of n) is)) _ _ P (λ _. no_vote Mismatch refl)
      (λ m. cond_both (is_crowded n) _ _ P (λ _. no_vote Full refl)
      (λ r. step_accepted k (not-true (is_forced (journal_of n) tid) (not-false (not (is_forced (journal_of n) tid)) f)) (not-false (all_hold (cells_of n) is) m) (or_parts (is_full (journal_of n)) _ r).0 budget a))))
    where
      P : Vote → Type 0
      P x = Step items sizes count h w c (wrote_by q budget (prepared_as x q n tid ps is)) (carried (without_message c i) q budget (prepared_as x q n tid ps is) a).1

      no_vote : (x : Vote) → is_yes x ≡ false → Step items sizes count h w c (wrote_by q budget (sending n (from q tid CoordinatorParty (voted x [])))) (carried (without_message c i) q budget (sending n (from q tid CoordinatorParty (voted x []))) a).1
      no_vote x e = after_loss items sizes count h w c s i _ _ (step_refused items sizes count h w c s i tid q there budget a x e l)
