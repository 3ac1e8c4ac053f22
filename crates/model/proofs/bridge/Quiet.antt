-- A node takes a message and writes nothing: its tables change, and messages are sent. Queries, acknowledgements, replies.
use Rattle.std.proofs.Common.{◌≡◌, ℕ, zero, suc, ◌<◌, ◌≤◌, Bool, true, false, cond, not, eqb, ◌⊎◌, List, [], ◌∷◌, map, length, get_or, take, set, sym, refl, ap, ◌∙◌, subst, inl, inr, ⊎_elim, arith}
use Rattle.std.specs.List.{AllByRecursion as All}
use Rattle.std.proofs.lemmas.Bool.{cases_eq, both_ways, and_parts, or_cases, not-true, ltb-false, eqb-true, eq-eqb, ne_eqb, cond_both}
use Rattle.std.proofs.lemmas.List.{get_or-set_other}
use Rattle.model.specs.declared.party.Party.{Party}
use Rattle.model.specs.declared.party.Party.TheVariants.{Node as NodeParty}
use Rattle.model.specs.Items.{Item}
use Rattle.model.specs.Cells.{Cell}
use Rattle.model.specs.Lists.{place}
use Rattle.model.specs.Messages.{Message, settled}
use Rattle.model.specs.Answers.{Answer}
use Rattle.model.specs.Journal.{Entry, tid_of, has_entry, entry_of, is_empty, oldest, past, no_entry}
use Rattle.model.specs.Writes.{applied_all}
use Rattle.model.specs.Node.{Node, Volatile, journal_of, powerless}
use Rattle.model.specs.Cluster.{Cluster, node_at, with_node}
use Rattle.model.specs.Handling.{Effect, without_effect, from, queried, is_settled, acknowledged, is_oldest, acknowledging}
use Rattle.model.specs.Calls.{carried}
use Rattle.model.specs.Deeds.{wrote, wrote_by, touched, touched_by_all, yes_after, yes_by_all}
use Rattle.model.proofs.core.Lists.{all_map, all_append, all_self, some_map}
use Rattle.model.proofs.core.State as core
use Rattle.model.proofs.core.State.{Claim, Past, State, prepares, prepares_in, says_query, says_settled, says_reply, state_with_node, has_voted_yes}
use Rattle.model.proofs.core.Facts.{Justified, Settled, Extends, all_justified_stays}
use Rattle.model.proofs.core.Memories.{Invariant}
use Rattle.model.proofs.core.KeptEntries.{kept, kept_extends}
use Rattle.model.proofs.core.Writes.{nothing_written}
use Rattle.model.proofs.core.Justify.{query_settled}
use Rattle.model.proofs.bridge.Tests.{some_stands}
use Rattle.model.proofs.bridge.ItemBook.{item_book}
use Rattle.model.proofs.bridge.SerialMemories.{logged_entry}
use Rattle.model.proofs.bridge.WritesSeen.{TidsDistinct}
use Rattle.model.proofs.bridge.WriteSteps.{tids_distinct}
use Rattle.model.proofs.bridge.Abstraction.{Touched, cluster_seen, node_seen, entries_seen, claim_of}
use Rattle.model.proofs.bridge.Tables.{NodeFits, MessageFits, node_stays, messages_stay}
use Rattle.model.proofs.bridge.Sound.{Sound, Step, agreed}
use Rattle.model.proofs.bridge.NodeSteps.{step_node, step_then, step_writes_none, wrote_others, wrote_here}
use Rattle.model.proofs.bridge.Talk.{step_sends}
use Rattle.model.proofs.bridge.Collect.{step_carried}

-- among distinct tids, what holds of the first entry of a tid holds of each
found_first : {p : ℕ} (tid : ℕ) (es : List Entry) → TidsDistinct es → (get_or es (place tid_of tid es) no_entry).running ≤ p → All (λ (e : Entry). e.tid ≡ tid → e.running ≤ p) es
unfolding place
found_first tid [] d h = tt
found_first {p = p} tid (e ∷ es) d h = go (cases_eq e.tid tid) h (found_first tid es d.1)
  where
    go : ((e.tid ≡ tid) ⊎ (e.tid ≡ tid → ⊥)) → (get_or (e ∷ es) (cond (eqb e.tid tid) 0 (suc (place tid_of tid es))) no_entry).running ≤ p
        → ((get_or es (place tid_of tid es) no_entry).running ≤ p → All (λ (f : Entry). f.tid ≡ tid → f.running ≤ p) es) → All (λ (f : Entry). f.tid ≡ tid → f.running ≤ p) (e ∷ es)
    go (inl r) h i = let h' : e.running ≤ p = rw (eq-eqb e.tid tid r) at h in ((λ _. h'), all_map _ _ (λ f z y. absurd (z (r ∙ sym y))) es d.0)
    go (inr r) h i = let h' : (get_or es (place tid_of tid es) no_entry).running ≤ p = rw (ne_eqb e.tid tid r) at h in ((λ z. absurd (r z)), i h')

module _ (items : ℕ → List Item) (sizes : ℕ → ℕ) (count : ℕ) (h : Past Cell) (w : Touched) (c : Cluster) (s : Sound items sizes count h w c) (q : ℕ) (l : q < length c.nodes) where
  abbrev B : core.Book Cell
  B = item_book items

  abbrev S : State Cell
  S = cluster_seen h w c

  abbrev n : Node
  n = node_at c q

  fits : NodeFits items S sizes q n
  fits = s.tables.nodes q l

  -- the node as it is, seen as it is
  same_invariant : Invariant B (state_with_node S q (S.nodes q))
  same_invariant = kept B S s.invariant q (S.nodes q) (nothing_written B S s.invariant q) (λ u. s.invariant.memories.serving q u)

  same_extends : Extends B S (state_with_node S q (S.nodes q))
  same_extends = kept_extends B S s.invariant q (S.nodes q) (nothing_written B S s.invariant q)

  -- what is gone with the power is other, in the same condition
  abbrev with_volatile : Volatile → Node
  with_volatile v = record { stores = n.stores; volatile = v }

  quiet_seen : (v : Volatile) → v.condition ≡ n.volatile.condition → node_seen (λ b. touched (wrote q []) q b (w q b)) (with_volatile v) ≡ S.nodes q
  unfolding cluster_seen touched_by_all
  quiet_seen v e = ap (λ (u : ℕ → Bool). node_seen u (with_volatile v)) (wrote_here items sizes count h w c s q []) ∙ rw e refl

  no_yes : yes_after (wrote q []) (map logged_entry h.log) ≡ map logged_entry h.log
  unfolding yes_by_all
  no_yes = refl

  step_volatile : (v : Volatile) → v.condition ≡ n.volatile.condition → NodeFits items S sizes q (with_volatile v) → Step items sizes count h w c (wrote q []) (with_node c q (with_volatile v))
  step_volatile v e f = step_node items sizes count h w c s q l (with_volatile v) (wrote q []) (S.nodes q) (wrote_others items sizes count h w c s q []) no_yes (quiet_seen v e) same_invariant same_extends
      (node_stays items S (state_with_node S q (S.nodes q)) same_extends sizes q (with_volatile v) f)

  abbrev quiet : Volatile → List Message → Effect
  quiet v ms = record { writes = []; volatile = v; sent = ms }

  none_torn : (budget : ℕ) → Step items sizes count h w c (wrote q (take budget [])) (with_node c q (powerless (applied_all (take budget []) n.stores)))
  unfolding applied_all
  none_torn zero = step_writes_none items sizes count h w c s q l
  none_torn (suc f) = step_writes_none items sizes count h w c s q l

  -- justified messages that fit are sent by a node that writes nothing
  pub step_quiet : (budget : ℕ) (a : Answer) (v : Volatile) (ms : List Message) → v.condition ≡ n.volatile.condition → NodeFits items S sizes q (with_volatile v)
      → ((m p : ℕ) → prepares m p (map claim_of ms) ≡ 0) → All (Justified B S) (map claim_of ms) → All (MessageFits items S c.last_recovery c.recoveries) ms
      → Step items sizes count h w c (wrote_by q budget (quiet v ms)) (carried c q budget (quiet v ms) a).1
  unfolding applied_all
  step_quiet budget a v ms e f z j m = step_carried items sizes count h w c s q budget (quiet v ms) a (none_torn budget)
      (step_then items sizes count h w c (with_node c q (with_volatile v)) _ (wrote q []) first
      (step_sends items sizes count first.past _ (with_node c q (with_volatile v)) first.sound ms c.coordinators c.recoveries c.last_recovery z
      (all_justified_stays B S _ first.extends (map claim_of ms) j) first.sound.tables.coordinators first.sound.tables.recoveries
      (all_append _ c.network ms first.sound.tables.messages (messages_stay items S _ first.extends c.last_recovery c.recoveries ms j m))))
    where
      first : Step items sizes count h w c (wrote q []) (with_node c q (with_volatile v))
      first = step_volatile v e f

  pub step_without_effect : (budget : ℕ) (a : Answer) → Step items sizes count h w c (wrote_by q budget (without_effect n)) (carried c q budget (without_effect n) a).1
  unfolding prepares
  step_without_effect budget a = step_quiet budget a n.volatile [] refl fits (λ _ _. refl) tt tt

  -- ## A query

  settled_seen : (tid : ℕ) → is_settled (journal_of n) tid ≡ true → Settled B S tid q
  unfolding cluster_seen
  settled_seen tid z = ⊎_elim (λ a. none (not-true (has_entry (journal_of n) tid) a)) (λ a. behind (not-true (past (journal_of n) (entry_of (journal_of n) tid)) a)) (or_cases (not (has_entry (journal_of n) tid)) (not (past (journal_of n) (entry_of (journal_of n) tid))) z)
    where
      go : (es : List Entry) → All (λ (e : Entry). e.tid ≡ tid → e.running ≤ (journal_of n).pointer) es → All (λ (e : core.Entry). e.tid ≡ tid → e.number ≤ (journal_of n).pointer) (entries_seen es)
      go [] a = tt
      go (e ∷ es) a = (a.0, go es a.1)

      none : has_entry (journal_of n) tid ≡ false → All (λ (e : core.Entry). e.tid ≡ tid → e.number ≤ (journal_of n).pointer) (entries_seen (journal_of n).entries)
      none a = go (journal_of n).entries (all_map _ _ (λ e x r. absurd (both_ways (has_entry (journal_of n) tid) a (some_stands tid_of tid (journal_of n).entries (some_map _ _ (λ f y. ap (λ (g : Entry). g.tid) y ∙ r) (journal_of n).entries x)))) (journal_of n).entries (all_self (journal_of n).entries))

      behind : past (journal_of n) (entry_of (journal_of n) tid) ≡ false → All (λ (e : core.Entry). e.tid ≡ tid → e.number ≤ (journal_of n).pointer) (entries_seen (journal_of n).entries)
      behind a = go (journal_of n).entries (found_first tid (journal_of n).entries (tids_distinct items sizes count h w c s q) (ltb-false (journal_of n).pointer (entry_of (journal_of n) tid).running a))

  pub step_queried : (budget : ℕ) (a : Answer) (tid : ℕ) (who : Party) → Justified B S (says_query tid q) → Step items sizes count h w c (wrote_by q budget (queried q n tid who)) (carried c q budget (queried q n tid who) a).1
  unfolding prepares prepares_in
  step_queried budget a tid who j = cond_both (is_settled (journal_of n) tid) _ _ (λ (e : Effect). Step items sizes count h w c (wrote_by q budget e) (carried c q budget e a).1)
      (λ z. step_quiet budget a n.volatile (from q tid who settled ∷ []) refl fits (λ _ _. omega arith) (query_settled B S (agreed items sizes count h w c s) tid q j (settled_seen tid z), tt) (tt, tt))
      (λ _. step_without_effect budget a)

  -- ## An acknowledgement

  set_true : (bs : List Bool) (p r : ℕ) → get_or (set bs p true) r false ≡ true → (r ≡ p) ⊎ (get_or bs r false ≡ true)
  set_true bs p r z = ⊎_elim inl (λ e. inr (sym (get_or-set_other bs p r true false e) ∙ z)) (cases_eq r p)

  pub step_acknowledged : (budget : ℕ) (a : Answer) (tid p : ℕ) → Justified B S (says_settled tid p) → Step items sizes count h w c (wrote_by q budget (acknowledged n tid (NodeParty p))) (carried c q budget (acknowledged n tid (NodeParty p)) a).1
  unfolding prepares
  step_acknowledged budget a tid p j = cond_both (is_oldest (journal_of n) tid) _ _ (λ (e : Effect). Step items sizes count h w c (wrote_by q budget e) (carried c q budget e a).1)
      (λ z. step_quiet budget a (acknowledging n.volatile (set n.volatile.acknowledged p true)) [] refl (more z) (λ _ _. refl) tt tt)
      (λ _. step_without_effect budget a)
    where
      more : is_oldest (journal_of n) tid ≡ true → NodeFits items S sizes q (with_volatile (acknowledging n.volatile (set n.volatile.acknowledged p true)))
      more z =
          let u = and_parts (not (is_empty (journal_of n))) (eqb (oldest (journal_of n)).tid tid) z in
          record {
            size = fits.size;
            entries = fits.entries;
            doubts = fits.doubts;
            doubts_distinct = fits.doubts_distinct;
            doubts_open = fits.doubts_open;
            open_doubts = fits.open_doubts;
            unresolved = fits.unresolved;
            none_unresolved = fits.none_unresolved;
            open_unresolved = fits.open_unresolved;
            acknowledged = λ r y. ⊎_elim (λ e. (not-true (is_empty (journal_of n)) u.0, subst (λ m. Justified B S (says_settled m r)) (sym (eqb-true (oldest (journal_of n)).tid tid u.1)) (subst (λ m. Justified B S (says_settled tid m)) (sym e) j)))
                (λ y'. fits.acknowledged r y') (set_true n.volatile.acknowledged p r y);
          }

  -- from no node: nothing is noted
  pub step_settled_by_none : (budget : ℕ) (a : Answer) (tid : ℕ) → Step items sizes count h w c (wrote_by q budget (cond (is_oldest (journal_of n) tid) (record { writes = []; volatile = n.volatile; sent = [] }) (without_effect n))) (carried c q budget (cond (is_oldest (journal_of n) tid) (record { writes = []; volatile = n.volatile; sent = [] }) (without_effect n)) a).1
  step_settled_by_none budget a tid = cond_both (is_oldest (journal_of n) tid) _ _ (λ (e : Effect). Step items sizes count h w c (wrote_by q budget e) (carried c q budget e a).1) (λ _. step_without_effect budget a) (λ _. step_without_effect budget a)
