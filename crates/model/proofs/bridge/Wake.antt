-- The call wake: a node has power again, with what the loss of power left.
use Rattle.std.proofs.Common.{◌≡◌, ℕ, zero, suc, ◌^◌, ◌<◌, Bool, true, false, cond, not, eqb, List, [], ◌∷◌, map, length, get_or, is_some, Some as SomeOf, None, Option, sym, refl, ap, ◌∙◌, subst, ap₂, inl, inr, ⊎_elim, arith}
use Rattle.std.specs.List.{AllByRecursion as All}
use Rattle.std.specs.Option.{option_map}
use Rattle.std.proofs.lemmas.Bool.{both_ways, and_parts, eq-eqb, ne_eqb, eqb-true, ltb-true, or_cases}
use Rattle.model.specs.declared.outcome.Outcome.{Outcome}
use Rattle.model.specs.declared.condition.Condition.TheVariants.{Up, Recovering}
use Rattle.model.specs.Items.{Item}
use Rattle.model.specs.Numbers.{most_nodes}
use Rattle.model.specs.Cells.{Cell}
use Rattle.model.specs.Lists.{place, only}
use Rattle.model.specs.Participants.{members_below, members, alone}
use Rattle.model.specs.Journal.{Entry, Journal, tid_of, no_entry, with_outcome, durably, outcomes_left, restarted, past, is_forced}
use Rattle.model.specs.Node.{Node, Unresolved, Left, journal_of, is_open, found, recovering}
use Rattle.model.specs.Cluster.{Cluster, node_at, with_node}
use Rattle.model.specs.Deeds.{woke, touched}
use Rattle.model.specs.History.{OutcomeLeft, OutcomesLeft, LeftOf}
use Rattle.model.proofs.core.Lists.{Some, has, all_map, all_two, all_self, some_map}
use Rattle.model.proofs.core.State as core
use Rattle.model.proofs.core.State.{Past, State, absent, present, state_with_node, outcomes, entry_with_outcome}
use Rattle.model.proofs.core.Facts.{Known, Extends, known_stays}
use Rattle.model.proofs.core.Restart as restart
use Rattle.model.proofs.core.Restart.{LeftOver, restarted_node, restarted_extends}
use Rattle.model.proofs.core.Justify.{replies_yes_known}
use Rattle.model.proofs.bridge.Tests.{only_all, only_passes, only_some}
use Rattle.model.proofs.bridge.ItemEffects.{cell_at}
use Rattle.model.proofs.bridge.ItemBook.{item_book}
use Rattle.model.proofs.bridge.SerialMemories.{Within}
use Rattle.model.proofs.bridge.WritesSeen.{TidsDistinct}
use Rattle.model.proofs.bridge.Abstraction.{Touched, cluster_seen, node_seen, entry_seen, entries_seen, outcome_seen}
use Rattle.model.proofs.bridge.Tables.{EntryCopies, NodeFits, UnresolvedFits}
use Rattle.model.proofs.bridge.Sound.{Sound, Step, agreed}
use Rattle.model.proofs.bridge.NodeSteps.{step_node, no_bits}
use Rattle.model.proofs.bridge.WriteSteps.{tids_distinct}

-- ## Entries before and after

-- the same entry, with an outcome that may be left of its own
abbrev SameLeft : Entry → Entry → Type 0
SameLeft e f = (e.running ≡ f.running) × (e.tid ≡ f.tid) × LeftOver (outcome_seen e.outcome) (outcome_seen f.outcome)

abbrev Zip : List Entry → List Entry → Type 0
Zip [] [] = Unit {0}
Zip [] (f ∷ fs) = ⊥
Zip (e ∷ es) [] = ⊥
Zip (e ∷ es) (f ∷ fs) = SameLeft e f × Zip es fs

one_left : (o : Option Outcome) (l : Option Bool) → OutcomeLeft o l → LeftOver (outcome_seen o) (outcome_seen (option_map durably l))
one_left None l h = rw h (λ z. z)
one_left (SomeOf o) l (inl h) = rw h (refl, (o.durable, refl))
one_left (SomeOf o) l (inr h) = rw h.1 (λ z. both_ways o.durable h.0 z)

left_zip : (es : List Entry) (ls : List (Option Bool)) → OutcomesLeft es ls → Zip es (outcomes_left es ls)
unfolding outcomes_left
left_zip [] [] h = tt
left_zip [] (l ∷ ls) h = absurd h
left_zip (e ∷ es) [] h = absurd h
left_zip (e ∷ es) (l ∷ ls) h = ((refl, refl, one_left e.outcome l h.0), left_zip es ls h.1)

left_all : (P : Entry → Type 0) → ((e : Entry) (o : Option Outcome) → P e → P (with_outcome e o)) → (es : List Entry) (ls : List (Option Bool)) → All P es → All P (outcomes_left es ls)
unfolding outcomes_left
left_all P k [] ls h = tt
left_all P k (e ∷ es) [] h = (k e None h.0, left_all P k es [] h.1)
left_all P k (e ∷ es) (l ∷ ls) h = (k e (option_map durably l) h.0, left_all P k es ls h.1)

-- what the entry of a tid has as its outcome
abbrev looked_up : List Entry → core.Entry → core.Outcome
looked_up fs e = outcome_seen (get_or fs (place tid_of e.tid fs) no_entry).outcome

looked_here : (f : Entry) (fs : List Entry) (e : core.Entry) → e.tid ≡ f.tid → looked_up (f ∷ fs) e ≡ outcome_seen f.outcome
unfolding place
looked_here f fs e r = rw (eq-eqb f.tid e.tid (sym r)) refl

looked_there : (f : Entry) (fs : List Entry) (e : core.Entry) → (e.tid ≡ f.tid → ⊥) → looked_up (f ∷ fs) e ≡ looked_up fs e
unfolding place
looked_there f fs e r = rw (ne_eqb f.tid e.tid (λ z. r (sym z))) refl

outcomes_alike : (g k : core.Entry → core.Outcome) (es : List core.Entry) → All (λ e. g e ≡ k e) es → outcomes g es ≡ outcomes k es
unfolding outcomes
outcomes_alike g k [] h = refl
outcomes_alike g k (e ∷ es) h = ap₂ (λ (o : core.Outcome) (fs : List core.Entry). record { number = e.number; tid = e.tid; outcome = o } ∷ fs) h.0 (outcomes_alike g k es h.1)

seen_others : (e f : Entry) (es : List Entry) → e.tid ≡ f.tid → All (λ (x : Entry). e.tid ≡ x.tid → ⊥) es → All (λ (x : core.Entry). x.tid ≡ f.tid → ⊥) (entries_seen es)
seen_others e f [] r h = tt
seen_others e f (x ∷ es) r h = ((λ z. h.0 (r ∙ sym z)), seen_others e f es r h.1)

zip_outcomes : (es fs : List Entry) → Zip es fs → TidsDistinct es → outcomes (looked_up fs) (entries_seen es) ≡ entries_seen fs
unfolding outcomes
zip_outcomes [] [] z d = refl
zip_outcomes [] (f ∷ fs) z d = absurd z
zip_outcomes (e ∷ es) [] z d = absurd z
zip_outcomes (e ∷ es) (f ∷ fs) z d =
    ap₂ (λ (x : core.Entry) (xs : List core.Entry). x ∷ xs) head
    (outcomes_alike (looked_up (f ∷ fs)) (looked_up fs) (entries_seen es) (all_map _ _ (λ x r. looked_there f fs x r) (entries_seen es) (seen_others e f es z.0.1 d.0)) ∙ zip_outcomes es fs z.1 d.1)
  where
    head : entry_with_outcome (looked_up (f ∷ fs)) (entry_seen e) ≡ entry_seen f
    head = rw (looked_here f fs (entry_seen e) z.0.1, z.0.0, z.0.1) refl

zip_left_over : (es fs : List Entry) → Zip es fs → TidsDistinct es → All (λ (e : core.Entry). LeftOver e.outcome (looked_up fs e)) (entries_seen es)
zip_left_over [] [] z d = tt
zip_left_over [] (f ∷ fs) z d = absurd z
zip_left_over (e ∷ es) [] z d = absurd z
zip_left_over (e ∷ es) (f ∷ fs) z d = (
  subst (LeftOver (outcome_seen e.outcome)) (sym (looked_here f fs (entry_seen e) z.0.1)) z.0.2,
  all_two _ _ _ (λ x r a. subst (LeftOver x.outcome) (sym (looked_there f fs x r)) a) (entries_seen es) (seen_others e f es z.0.1 d.0) (zip_left_over es fs z.1 d.1),
)

-- ## Alone

members_alone : (q : ℕ) → q < most_nodes → members (2 ^ q) ≡ q ∷ []
unfolding members_below
members_alone zero l = refl
members_alone (suc zero) l = refl
members_alone (suc (suc zero)) l = refl
members_alone (suc (suc (suc zero))) l = refl
members_alone (suc (suc (suc (suc q)))) l = absurd (omega arith)

only_that : (q p : ℕ) → has p (q ∷ []) ≡ true → p ≡ q
unfolding has
only_that q p h = ⊎_elim (λ z. eqb-true p q z) (λ z. absurd (both_ways false refl z)) (or_cases (eqb p q) false h)

-- ## The call

module _ (items : ℕ → List Item) (sizes : ℕ → ℕ) (count : ℕ) (within : (n : ℕ) → Within sizes count (items n))
    (h : Past Cell) (w : Touched) (c : Cluster) (s : Sound items sizes count h w c) (q : ℕ)
    (l : q < length c.nodes) (left : Left) (fed : LeftOf (node_at c q) (w q) left) where
  abbrev B : core.Book Cell
  B = item_book items

  abbrev S : State Cell
  S = cluster_seen h w c

  abbrev es : List Entry
  es = (journal_of (node_at c q)).entries

  abbrev fs : List Entry
  fs = outcomes_left es left.outcomes

  abbrev n : Node
  n = recovering q (node_at c q) left

  fits : NodeFits items S sizes q (node_at c q)
  fits = s.tables.nodes q l

  zip : Zip es fs
  zip = left_zip es left.outcomes fed.outcomes

  distinct : TidsDistinct es
  distinct = tids_distinct items sizes count h w c s q

  memory_left : (b : ℕ) → (S.nodes q).written b ≡ false → cell_at left.cells b ≡ (S.nodes q).memory b
  unfolding cluster_seen
  memory_left b z = fed.kept b z

  outcomes_left_lem : All (λ (e : core.Entry). LeftOver e.outcome (looked_up fs e)) (S.nodes q).entries
  unfolding cluster_seen
  outcomes_left_lem = zip_left_over es fs zip distinct

  abbrev k : core.Node Cell
  k = restarted_node B S s.invariant q (cell_at left.cells) (looked_up fs) memory_left outcomes_left_lem

  woken_seen : node_seen (λ b. touched (woke q) q b (w q b)) n ≡ k
  unfolding cluster_seen
  woken_seen = rw (eq-eqb q q refl) (ap (λ (xs : List core.Entry). core.node core.recovering (cell_at left.cells) (λ b. false) xs (journal_of (node_at c q)).pointer (journal_of (node_at c q)).highest (λ t. is_forced (journal_of (node_at c q)) t)) (sym (zip_outcomes es fs zip distinct)))

  x' : Extends B S (state_with_node S q k)
  x' = restarted_extends B S s.invariant q (cell_at left.cells) (looked_up fs) memory_left outcomes_left_lem

  copies : All (EntryCopies items q) fs
  copies = left_all (EntryCopies items q) (λ e o z. z) es left.outcomes fits.entries

  abbrev j : Journal
  j = restarted (journal_of (node_at c q)) left.outcomes

  -- the entry stood before, under its tid
  stood : (f : Entry) → Some (λ (x : Entry). x ≡ f) fs → Some (λ (e : core.Entry). e.tid ≡ f.tid) (S.nodes q).entries
  unfolding cluster_seen
  stood f x = go es fs zip x
    where
      go : (ks fs : List Entry) → Zip ks fs → Some (λ (x : Entry). x ≡ f) fs → Some (λ (e : core.Entry). e.tid ≡ f.tid) (entries_seen ks)
      go [] [] z x = absurd x
      go [] (g ∷ gs) z x = absurd z
      go (e ∷ ks) [] z x = absurd z
      go (e ∷ ks) (g ∷ gs) z (inl r) = inl (z.0.1 ∙ ap (λ (y : Entry). y.tid) r)
      go (e ∷ ks) (g ∷ gs) z (inr r) = inr (go ks gs z.1 r)

  found_fits : (f : Entry) → Some (λ (x : Entry). x ≡ f) fs → is_open j f ≡ true → EntryCopies items q f → UnresolvedFits items (state_with_node S q k) j (found q f)
  found_fits f x o copy = record {
    participants = copy.0;
    stands = seen_stands fs x;
    agreed = λ p z. absurd (no_bits most_nodes p z);
    resolved = λ b z. resolved b (alone f.participants q) refl z;
  }
    where
      past_it : j.pointer < f.running
      past_it = ltb-true j.pointer f.running (and_parts (past j f) (not (is_some f.outcome)) o).0

      seen_stands : (gs : List Entry) → Some (λ (x : Entry). x ≡ f) gs → Some (λ (e : core.Entry). (e.tid ≡ f.tid) × (j.pointer < e.number)) (entries_seen gs)
      seen_stands [] x = absurd x
      seen_stands (g ∷ gs) (inl r) = inl (ap (λ (y : Entry). y.tid) r, subst (λ (y : Entry). j.pointer < y.running) (sym r) past_it)
      seen_stands (g ∷ gs) (inr r) = inr (seen_stands gs r)

      mine : alone f.participants q ≡ true → Known B S f.tid true
      mine a = replies_yes_known B S (agreed items sizes count h w c s) f.tid q (stood f x)
          (λ p z. inl (only_that q p (subst (λ qs. has p qs ≡ true) (ap members (sym copy.0 ∙ eqb-true f.participants (2 ^ q) a) ∙ members_alone q (omega (arith, l, s.tables.number, (within 0).few))) z)))

      resolved : (b : Bool) (a : Bool) → alone f.participants q ≡ a → cond a (SomeOf true) None ≡ SomeOf b → Known B (state_with_node S q k) f.tid b
      resolved b true r z = subst (Known B (state_with_node S q k) f.tid) (value z) (known_stays B S (state_with_node S q k) x' f.tid true (mine r))
        where
          value : ◌≡◌ {A = Option Bool} (SomeOf true) (SomeOf b) → true ≡ b
          value e = cc
      resolved b false r z = absurd (let y : ◌≡◌ {A = ℕ} 0 1 = cc in omega arith)

  all_found : (gs : List Entry) → All (λ (f : Entry). UnresolvedFits items (state_with_node S q k) j (found q f)) gs → All (UnresolvedFits items (state_with_node S q k) j) (map (found q) gs)
  all_found [] z = tt
  all_found (g ∷ gs) z = (z.0, all_found gs z.1)

  found_there : (tid : ℕ) (gs : List Entry) → Some (λ (f : Entry). f.tid ≡ tid) gs → Some (λ (u : Unresolved). u.tid ≡ tid) (map (found q) gs)
  found_there tid [] z = z
  found_there tid (g ∷ gs) (inl z) = inl z
  found_there tid (g ∷ gs) (inr z) = inr (found_there tid gs z)

  woken_fits : NodeFits items (state_with_node S q k) sizes q n
  woken_fits = record {
    size = fed.size ∙ fits.size;
    entries = copies;
    doubts = tt;
    doubts_distinct = tt;
    doubts_open = λ u. absurd (recovering_not_up u);
    open_doubts = λ u. absurd (recovering_not_up u);
    unresolved = all_found (only (is_open j) fs)
        (all_two _ _ _ (λ f o a. found_fits f a.0 o a.1) (only (is_open j) fs) (only_passes (is_open j) fs)
        (only_all (λ (f : Entry). Some (λ (x : Entry). x ≡ f) fs × EntryCopies items q f) (is_open j) fs (all_two _ _ _ (λ f a b. (a, b)) fs (all_self fs) copies)));
    none_unresolved = λ u. absurd (recovering_not_up u);
    open_unresolved = λ _. all_map _ _ (λ f x o. found_there f.tid (only (is_open j) fs) (only_some _ (is_open j) fs (some_map _ _ (λ g r. (subst (λ (y : Entry). is_open j y ≡ true) (sym r) o, ap (λ (y : Entry). y.tid) r)) fs x))) fs (all_self fs);
    acknowledged = λ p r. absurd (no_bits most_nodes p r);
  }
    where
      recovering_not_up : Recovering ≡ Up → ⊥
      recovering_not_up z = let y : ◌≡◌ {A = ℕ} 0 1 = cc in omega arith

  woke_others : (p : ℕ) → (p ≡ q → ⊥) → (λ b. touched (woke q) p b (w p b)) ≡ w p
  woke_others p e = rw (ne_eqb q p (λ z. e (sym z))) refl

  pub step_wakes : Step items sizes count h w c (woke q) (with_node c q n)
  step_wakes = step_node items sizes count h w c s q l n (woke q) k woke_others refl woken_seen
      (restart.restarted B S s.invariant q (cell_at left.cells) (looked_up fs) memory_left outcomes_left_lem) x' woken_fits
