-- A recovering node takes a reply; a node answers an inquiry, with a forced abort where no entry stands.
use Rattle.std.proofs.Common.{◌≡◌, ℕ, zero, suc, ◌<◌, Bool, true, false, cond, not, ◌||◌, eqb, ◌⊎◌, List, [], ◌∷◌, ◌++◌, map, length, get_or, take, set, Some as SomeOf, None, Option, sym, refl, ap, ◌∙◌, subst, inl, inr, ⊎_elim, arith}
use mathlib.Core.Path.{fun_ext}
use Rattle.std.proofs.lemmas.Bool.{cases_eq, both_ways, and_parts, or_cases, or_from, or_left, or_right, not-true, not-false, eqb-true, eq-eqb, ne_eqb, cond_both}
use Rattle.std.proofs.lemmas.List.{get_or-set_same, get_or-set_other}
use Rattle.model.specs.declared.condition.Condition.TheVariants.{Up}
use Rattle.model.specs.declared.party.Party.{Party}
use Rattle.model.specs.declared.party.Party.TheVariants.{Node as NodeParty}
use Rattle.model.specs.Items.{Item}
use Rattle.model.specs.Cells.{Cell}
use Rattle.model.specs.Lists.{place, stands, among}
use Rattle.model.specs.Participants.{members, participants_of, every_member}
use Rattle.model.specs.Messages.{reply}
use Rattle.model.specs.Answers.{Answer, delivered}
use Rattle.model.specs.Journal.{Entry, Journal, tid_of, has_entry, is_forced, may_vote_yes, is_forced_full}
use Rattle.model.specs.Writes.{Stores, force, applied_all}
use Rattle.model.specs.Node.{Node, no_node, Unresolved, journal_of, cells_of, is_unresolved, unresolved_of, unresolved_tid, no_unresolved, powerless}
use Rattle.model.specs.Cluster.{Cluster, node_at, with_node, sent}
use Rattle.model.specs.Handling.{Effect, Reaction, from, replied, heard, agreed_by, resolved_as, with_unresolved, inquired}
use Rattle.model.specs.Calls.{carried, reacted}
use Rattle.model.specs.Deeds.{wrote, wrote_by, reacted_with, touched, touched_by_all, yes_after, yes_by_all}
use Rattle.model.proofs.core.Lists.{Some, all_map, all_append, some_left, some_map, some_push, every_has}
use Rattle.model.proofs.core.State as core
use Rattle.model.proofs.core.State.{Claim, Past, State, prepares, prepares_in, says_inquiry, says_reply, state_with_node, has_voted_yes}
use Rattle.model.proofs.core.Facts.{Justified, Known, Ended, Extends, justified_stays}
use Rattle.model.proofs.core.Memories.{Serving, Invariant}
use Rattle.model.proofs.core.KeptEntries.{KeptEntries, kept, kept_extends}
use Rattle.model.proofs.core.Writes.{nothing_written, write_kept}
use Rattle.model.proofs.core.Justify.{reply_no_known, replies_yes_known, standing_reply, forced_reply}
use Rattle.model.proofs.bridge.Tests.{stands_some, some_stands, found_is, found_all}
use Rattle.model.proofs.bridge.ItemEffects.{cell_at}
use Rattle.model.proofs.bridge.ItemBook.{item_book}
use Rattle.model.proofs.bridge.SerialMemories.{logged_entry}
use Rattle.model.proofs.bridge.Abstraction.{Touched, cluster_seen, node_seen, entries_seen, condition_seen}
use Rattle.model.proofs.bridge.Tables.{AboutRecovery, NodeFits, UnresolvedFits, node_stays}
use Rattle.model.proofs.bridge.Sound.{Sound, Step, agreed, step_nothing}
use Rattle.model.proofs.bridge.NodeSteps.{step_node, step_node_down, step_then, wrote_others, wrote_here}
use Rattle.model.proofs.bridge.WriteSteps.{all_set, step_torn}
use Rattle.model.proofs.bridge.Talk.{step_sends}
use Rattle.model.proofs.bridge.Collect.{step_carried}
use Rattle.model.proofs.bridge.Quiet.{step_quiet, step_without_effect}

unseen : (tid : ℕ) (es : List Entry) → Some (λ (e : core.Entry). e.tid ≡ tid) (entries_seen es) → Some (λ (e : Entry). e.tid ≡ tid) es
unseen tid [] x = x
unseen tid (e ∷ es) (inl x) = inl x
unseen tid (e ∷ es) (inr x) = inr (unseen tid es x)

seen_too : (tid : ℕ) (es : List Entry) → Some (λ (e : Entry). e.tid ≡ tid) es → Some (λ (e : core.Entry). e.tid ≡ tid) (entries_seen es)
seen_too tid [] x = x
seen_too tid (e ∷ es) (inl x) = inl x
seen_too tid (e ∷ es) (inr x) = inr (seen_too tid es x)

bool_iff : (a b : Bool) → (a ≡ true → b ≡ true) → (b ≡ true → a ≡ true) → a ≡ b
bool_iff true b f g = sym (f refl)
bool_iff false true f g = g refl
bool_iff false false f g = refl

some_last : (t n : ℕ) (ns : List ℕ) → Some (λ m. m ≡ t) (ns ++ n ∷ []) → (n ≡ t) ⊎ Some (λ m. m ≡ t) ns
some_last t n [] (inl e) = inl e
some_last t n [] (inr e) = absurd e
some_last t n (m ∷ ns) (inl e) = inr (inl e)
some_last t n (m ∷ ns) (inr e) = ⊎_elim inl (λ z. inr (inr z)) (some_last t n ns e)

among_push : (t n : ℕ) (ns : List ℕ) → among t (ns ++ n ∷ []) ≡ (eqb t n || among t ns)
among_push t n ns = bool_iff (among t (ns ++ n ∷ [])) (eqb t n || among t ns)
    (λ z. ⊎_elim (λ e. or_left (eqb t n) (among t ns) (eq-eqb t n (sym e))) (λ x. or_right (eqb t n) (among t ns) (some_stands (λ m. m) t ns x)) (some_last t n ns (stands_some (λ m. m) t (ns ++ n ∷ []) z)))
    (λ z. some_stands (λ m. m) t (ns ++ n ∷ []) (⊎_elim (λ e. some_push (λ m. m ≡ t) ns n (sym (eqb-true t n e))) (λ e. some_left (λ m. m ≡ t) ns (n ∷ []) (stands_some (λ m. m) t ns e)) (or_cases (eqb t n) (among t ns) z)))

-- a tid that stands in a table stands there after one is replaced by one of its own tid
some_set : (m tid : ℕ) (us : List Unresolved) (u : Unresolved) → u.tid ≡ tid → Some (λ (x : Unresolved). x.tid ≡ m) us → Some (λ (x : Unresolved). x.tid ≡ m) (set us (place unresolved_tid tid us) u)
unfolding place
some_set m tid [] u e x = x
some_set m tid (y ∷ us) u e x = go (cases_eq y.tid tid) x (some_set m tid us u e)
  where
    go : ((y.tid ≡ tid) ⊎ (y.tid ≡ tid → ⊥)) → Some (λ (x : Unresolved). x.tid ≡ m) (y ∷ us) → (Some (λ (x : Unresolved). x.tid ≡ m) us → Some (λ (x : Unresolved). x.tid ≡ m) (set us (place unresolved_tid tid us) u))
        → Some (λ (x : Unresolved). x.tid ≡ m) (set (y ∷ us) (cond (eqb y.tid tid) 0 (suc (place unresolved_tid tid us))) u)
    go (inl r) (inl z) i = rw (eq-eqb y.tid tid r) (inl (e ∙ sym r ∙ z))
    go (inl r) (inr z) i = rw (eq-eqb y.tid tid r) (inr z)
    go (inr r) (inl z) i = rw (ne_eqb y.tid tid r) (inl z)
    go (inr r) (inr z) i = rw (ne_eqb y.tid tid r) (inr (i z))

module _ (items : ℕ → List Item) (sizes : ℕ → ℕ) (count : ℕ) (h : Past Cell) (w : Touched) (c : Cluster) (s : Sound items sizes count h w c) (q : ℕ) (l : q < length c.nodes) where
  abbrev B : core.Book Cell
  B = item_book items

  abbrev S : State Cell
  S = cluster_seen h w c

  abbrev n : Node
  n = node_at c q

  fits : NodeFits items S sizes q n
  fits = s.tables.nodes q l

  -- ## A reply

  module _ (tid : ℕ) (unresolved : is_unresolved n.volatile tid ≡ true) where
    abbrev us : List Unresolved
    us = n.volatile.unresolved

    abbrev u : Unresolved
    u = unresolved_of n.volatile tid

    there : Some (λ (x : Unresolved). x.tid ≡ tid) us
    there = stands_some unresolved_tid tid us (and_parts (stands unresolved_tid tid us) _ unresolved).0

    u_fits : UnresolvedFits items S (journal_of n) u
    u_fits = found_all unresolved_tid tid (UnresolvedFits items S (journal_of n)) us no_unresolved there fits.unresolved

    u_tid : u.tid ≡ tid
    u_tid = found_is unresolved_tid tid us no_unresolved there

    u_past : Some (λ (e : core.Entry). (e.tid ≡ u.tid) × ((S.nodes q).pointer < e.number)) (S.nodes q).entries
    unfolding cluster_seen
    u_past = u_fits.stands

    no_fits : (p : ℕ) → Justified B S (says_reply tid p false) → UnresolvedFits items S (journal_of n) (resolved_as u false)
    no_fits p j = record {
      participants = u_fits.participants;
      stands = u_fits.stands;
      agreed = u_fits.agreed;
      resolved = λ b z. subst (Known B S u.tid) (value b z) (reply_no_known B S (agreed items sizes count h w c s) u.tid q u_past (subst (Ended B S) (sym u_tid) j));
    }
      where
        value : (b : Bool) → ◌≡◌ {A = Option Bool} (SomeOf false) (SomeOf b) → false ≡ b
        value b e = cc

    yes_fits : (p : ℕ) → Justified B S (says_reply tid p true) → UnresolvedFits items S (journal_of n) (agreed_by q p u)
    yes_fits p j = record {
      participants = u_fits.participants;
      stands = u_fits.stands;
      agreed = heard_yes;
      resolved = λ b z. go b (every_member (λ r. eqb r q || get_or (set u.agreed p true) r false) u.participants) refl z;
    }
      where
        heard_yes : (r : ℕ) → get_or (set u.agreed p true) r false ≡ true → has_voted_yes S u.tid r ≡ true
        heard_yes r z = ⊎_elim (λ e. subst (λ m. has_voted_yes S u.tid m ≡ true) (sym e) (subst (λ m. has_voted_yes S m p ≡ true) (sym u_tid) j)) (λ e. u_fits.agreed r (sym (get_or-set_other u.agreed p r true false e) ∙ z)) (cases_eq r p)

        all_yes : every_member (λ r. eqb r q || get_or (set u.agreed p true) r false) u.participants ≡ true → Known B S u.tid true
        all_yes a = replies_yes_known B S (agreed items sizes count h w c s) u.tid q (some_map _ _ (λ e z. z.0) (S.nodes q).entries u_past)
            (λ r z. ⊎_elim (λ e. inl (eqb-true r q e)) (λ e. inr (heard_yes r e)) (or_cases (eqb r q) (get_or (set u.agreed p true) r false)
            (every_has (λ r. eqb r q || get_or (set u.agreed p true) r false) (members (participants_of (items u.tid))) r (subst (λ ps. every_member (λ r. eqb r q || get_or (set u.agreed p true) r false) ps ≡ true) u_fits.participants a) z)))

        value : (b : Bool) → ◌≡◌ {A = Option Bool} (SomeOf true) (SomeOf b) → true ≡ b
        value b e = cc

        go : (b a : Bool) → every_member (λ r. eqb r q || get_or (set u.agreed p true) r false) u.participants ≡ a → cond a (SomeOf true) None ≡ SomeOf b → Known B S u.tid b
        go b true r z = subst (Known B S u.tid) (value b z) (all_yes r)
        go b false r z = absurd (let y : ◌≡◌ {A = ℕ} 0 1 = cc in omega arith)

    resolved_node_fits : (u' : Unresolved) → UnresolvedFits items S (journal_of n) u' → u'.tid ≡ tid → (n.volatile.condition ≡ Up → ⊥) → NodeFits items S sizes q (record { stores = n.stores; volatile = with_unresolved n.volatile tid u' })
    resolved_node_fits u' f e not_up = record {
      size = fits.size;
      entries = fits.entries;
      doubts = fits.doubts;
      doubts_distinct = fits.doubts_distinct;
      doubts_open = fits.doubts_open;
      open_doubts = fits.open_doubts;
      unresolved = all_set (UnresolvedFits items S (journal_of n)) us (place unresolved_tid tid us) u' fits.unresolved (λ _. f);
      none_unresolved = λ z. absurd (not_up z);
      open_unresolved = λ r. all_map _ _ (λ x g o. some_set x.tid tid us u' e (g o)) (journal_of n).entries (fits.open_unresolved r);
      acknowledged = fits.acknowledged;
    }

  pub step_replied : (budget : ℕ) (a : Answer) (tid p : ℕ) (b : Bool) → (n.volatile.condition ≡ Up → ⊥) → Justified B S (says_reply tid p b)
      → Step items sizes count h w c (wrote_by q budget (replied q n tid (NodeParty p) b)) (carried c q budget (replied q n tid (NodeParty p) b) a).1
  unfolding prepares
  step_replied budget a tid p b not_up j = cond_both (is_unresolved n.volatile tid) _ _ (λ (e : Effect). Step items sizes count h w c (wrote_by q budget e) (carried c q budget e a).1)
      (λ z. go b j z)
      (λ _. step_without_effect items sizes count h w c s q l budget a)
    where
      go : (b : Bool) → Justified B S (says_reply tid p b) → (z : is_unresolved n.volatile tid ≡ true)
          → Step items sizes count h w c (wrote_by q budget (record { writes = []; volatile = with_unresolved n.volatile tid (heard q (NodeParty p) b (unresolved_of n.volatile tid)); sent = [] }))
          (carried c q budget (record { writes = []; volatile = with_unresolved n.volatile tid (heard q (NodeParty p) b (unresolved_of n.volatile tid)); sent = [] }) a).1
      go true j z = step_quiet items sizes count h w c s q l budget a (with_unresolved n.volatile tid (agreed_by q p (unresolved_of n.volatile tid))) [] refl (resolved_node_fits tid z _ (yes_fits tid z p j) (u_tid tid z) not_up) (λ _ _. refl) tt tt
      go false j z = step_quiet items sizes count h w c s q l budget a (with_unresolved n.volatile tid (resolved_as (unresolved_of n.volatile tid) false)) [] refl (resolved_node_fits tid z _ (no_fits tid z p j) (u_tid tid z) not_up) (λ _ _. refl) tt tt

  -- ## An inquiry

  module _ (tid : ℕ) (room : (is_forced (journal_of n) tid || is_forced_full (journal_of n)) ≡ false) where
    abbrev j' : Journal
    j' = record { entries = (journal_of n).entries; forced = (journal_of n).forced ++ tid ∷ []; pointer = (journal_of n).pointer; highest = (journal_of n).highest; capacity = (journal_of n).capacity }

    abbrev forced_node : Node
    forced_node = record { stores = record { cells = cells_of n; journal = j' }; volatile = n.volatile }

    forced_stores : applied_all (force tid ∷ []) n.stores ≡ forced_node.stores
    unfolding applied_all
    forced_stores = rw room refl

    abbrev k : core.Node Cell
    k = core.write (S.nodes q) (core.force tid)

    force_kept : KeptEntries B S q k
    force_kept = write_kept B S s.invariant q (S.nodes q) (core.force tid) tt (nothing_written B S s.invariant q)

    force_serves : k.condition ≡ core.up → Serving B S q k
    unfolding core.write
    force_serves u = record { shows = (s.invariant.memories.serving q u).shows; locks = (s.invariant.memories.serving q u).locks }

    force_invariant : Invariant B (state_with_node S q k)
    force_invariant = kept B S s.invariant q k force_kept force_serves

    force_extends : Extends B S (state_with_node S q k)
    force_extends = kept_extends B S s.invariant q k force_kept

    force_seen : node_seen (λ b. touched (wrote q (force tid ∷ [])) q b (w q b)) forced_node ≡ k
    unfolding cluster_seen touched_by_all core.write
    force_seen = ap (λ (u : ℕ → Bool). node_seen u forced_node) (wrote_here items sizes count h w c s q (force tid ∷ []))
        ∙ ap (λ (f : ℕ → Bool). core.node (condition_seen n.volatile.condition) (cell_at (cells_of n)) (w q) (entries_seen (journal_of n).entries) (journal_of n).pointer (journal_of n).highest f) (fun_ext (λ t. among_push t tid (journal_of n).forced))

    force_no_yes : yes_after (wrote q (force tid ∷ [])) (map logged_entry h.log) ≡ map logged_entry h.log
    unfolding yes_by_all
    force_no_yes = refl

    force_fits : NodeFits items (state_with_node S q k) sizes q forced_node
    force_fits =
        let f = node_stays items S (state_with_node S q k) force_extends sizes q n fits in
        record {
          size = f.size;
          entries = f.entries;
          doubts = f.doubts;
          doubts_distinct = f.doubts_distinct;
          doubts_open = f.doubts_open;
          open_doubts = f.open_doubts;
          unresolved = all_map _ _ (λ u g. record { participants = g.participants; stands = g.stands; agreed = g.agreed; resolved = g.resolved }) n.volatile.unresolved f.unresolved;
          none_unresolved = f.none_unresolved;
          open_unresolved = f.open_unresolved;
          acknowledged = f.acknowledged;
        }

    step_forces : Step items sizes count h w c (wrote q (force tid ∷ [])) (with_node c q forced_node)
    step_forces = step_node items sizes count h w c s q l forced_node (wrote q (force tid ∷ [])) k (wrote_others items sizes count h w c s q (force tid ∷ [])) force_no_yes force_seen force_invariant force_extends force_fits

    step_forces_down : Step items sizes count h w c (wrote q (force tid ∷ [])) (with_node c q (powerless forced_node.stores))
    step_forces_down = step_node_down items sizes count h w c s q l forced_node (wrote q (force tid ∷ [])) k (wrote_others items sizes count h w c s q (force tid ∷ [])) force_no_yes force_seen force_invariant force_extends force_fits.size force_fits.entries

    force_torn : (budget : ℕ) → Step items sizes count h w c (wrote q (take budget (force tid ∷ []))) (with_node c q (powerless (applied_all (take budget (force tid ∷ [])) n.stores)))
    force_torn zero = step_torn items sizes count h w c s q l [] tt tt
    force_torn (suc zero) = subst (λ (st : Stores). Step items sizes count h w c (wrote q (force tid ∷ [])) (with_node c q (powerless st))) (sym forced_stores) step_forces_down
    force_torn (suc (suc f)) = subst (λ (st : Stores). Step items sizes count h w c (wrote q (force tid ∷ [])) (with_node c q (powerless st))) (sym forced_stores) step_forces_down

    abbrev c' : Cluster
    c' = with_node c q forced_node

    node_there : node_at c' q ≡ forced_node
    node_there = get_or-set_same c.nodes q forced_node no_node l

    forced_now : (h' : Past Cell) (w' : Touched) → ((cluster_seen h' w' c').nodes q).forced tid ≡ true
    unfolding cluster_seen
    forced_now h' w' = subst (λ (m : Node). is_forced (journal_of m) tid ≡ true) (sym node_there) (among_push tid tid (journal_of n).forced ∙ or_left (eqb tid tid) (among tid (journal_of n).forced) (eq-eqb tid tid refl))

    none_stands : (h' : Past Cell) (w' : Touched) → has_entry (journal_of n) tid ≡ false → Some (λ (e : core.Entry). e.tid ≡ tid) ((cluster_seen h' w' c').nodes q).entries → ⊥
    unfolding cluster_seen
    none_stands h' w' z x = both_ways (has_entry (journal_of n) tid) z (some_stands tid_of tid (journal_of n).entries (unseen tid (journal_of n).entries (subst (λ (m : Node). Some (λ (e : core.Entry). e.tid ≡ tid) (entries_seen (journal_of m).entries)) node_there x)))

    abbrev effect : Party → Effect
    effect who = record { writes = force tid ∷ []; volatile = n.volatile; sent = from q tid who (reply false) ∷ [] }

    step_forced : (budget : ℕ) (a : Answer) (who : Party) → has_entry (journal_of n) tid ≡ false → Justified B S (says_inquiry tid q) → AboutRecovery items c.last_recovery c.recoveries tid who
        → Step items sizes count h w c (wrote_by q budget (effect who)) (carried c q budget (effect who) a).1
    unfolding prepares prepares_in
    step_forced budget a who none i about = step_carried items sizes count h w c s q budget (effect who) a (force_torn budget)
        (subst (λ (st : Stores). Step items sizes count h w c (wrote q (force tid ∷ [])) (sent (with_node c q (record { stores = st; volatile = n.volatile })) (from q tid who (reply false) ∷ []))) (sym forced_stores)
        (step_then items sizes count h w c (with_node c q forced_node) _ (wrote q (force tid ∷ [])) first
        (step_sends items sizes count first.past _ (with_node c q forced_node) first.sound (from q tid who (reply false) ∷ []) c.coordinators c.recoveries c.last_recovery (λ _ _. omega arith)
        (forced_reply B _ first.sound.invariant.agreement tid q (justified_stays B S _ first.extends (says_inquiry tid q) i) (none_stands first.past _ none) (forced_now first.past _), tt)
        first.sound.tables.coordinators first.sound.tables.recoveries
        (all_append _ c.network _ first.sound.tables.messages ((about, tt), tt)))))
      where
        first : Step items sizes count h w c (wrote q (force tid ∷ [])) (with_node c q forced_node)
        first = step_forces

  -- an entry of the rules that stands, as the core sees it
  entry_stands : (tid : ℕ) → has_entry (journal_of n) tid ≡ true → Some (λ (e : core.Entry). e.tid ≡ tid) (S.nodes q).entries
  unfolding cluster_seen
  entry_stands tid z = seen_too tid (journal_of n).entries (stands_some tid_of tid (journal_of n).entries z)

  no_entry_stands : (tid : ℕ) → has_entry (journal_of n) tid ≡ false → Some (λ (e : core.Entry). e.tid ≡ tid) (S.nodes q).entries → ⊥
  unfolding cluster_seen
  no_entry_stands tid z x = both_ways (has_entry (journal_of n) tid) z (some_stands tid_of tid (journal_of n).entries (unseen tid (journal_of n).entries x))

  forced_seen : (tid : ℕ) → is_forced (journal_of n) tid ≡ true → (S.nodes q).forced tid ≡ true
  unfolding cluster_seen
  forced_seen tid z = z

  pub step_inquired : (budget tid : ℕ) (who : Party) → Justified B S (says_inquiry tid q) → AboutRecovery items c.last_recovery c.recoveries tid who
      → Step items sizes count h w c (reacted_with q budget (inquired q n tid who)) (reacted c q budget (inquired q n tid who)).1
  unfolding prepares prepares_in
  step_inquired budget tid who i about =
      cond_both (has_entry (journal_of n) tid) _ _ P
      (λ z. step_quiet items sizes count h w c s q l budget (delivered true) n.volatile (from q tid who (reply true) ∷ []) refl fits (λ _ _. omega arith) (standing_reply B S (agreed items sizes count h w c s) tid q (entry_stands tid z), tt) ((about, tt), tt))
      (λ z. cond_both (not (may_vote_yes (journal_of n) tid)) _ _ P
      (λ f. step_quiet items sizes count h w c s q l budget (delivered true) n.volatile (from q tid who (reply false) ∷ []) refl fits (λ _ _. omega arith)
      (forced_reply B S (agreed items sizes count h w c s) tid q i (no_entry_stands tid z) (forced_seen tid (twice f)), tt) ((about, tt), tt))
      (λ f. cond_both (is_forced_full (journal_of n)) _ _ P
      (λ _. step_nothing items sizes count h w c s)
      (λ r. step_forced tid (or_from (is_forced (journal_of n) tid) (is_forced_full (journal_of n)) (twice_not f) r) budget (delivered true) who z i about)))
    where
      P : Reaction → Type 0
      P r = Step items sizes count h w c (reacted_with q budget r) (reacted c q budget r).1

      twice : not (not (is_forced (journal_of n) tid)) ≡ true → is_forced (journal_of n) tid ≡ true
      twice z = not-false (is_forced (journal_of n) tid) (not-true (not (is_forced (journal_of n) tid)) z)

      twice_not : not (not (is_forced (journal_of n) tid)) ≡ false → is_forced (journal_of n) tid ≡ false
      twice_not z = not-true (is_forced (journal_of n) tid) (not-false (not (is_forced (journal_of n) tid)) z)
