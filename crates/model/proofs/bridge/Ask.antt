-- Calls that open a minitransaction or ask another node: open, recover, inquire, query.
use Rattle.std.proofs.Common.{◌≡◌, ℕ, suc, ◌+◌, ◌<◌, ◌≤◌, true, false, not, ◌&&◌, eqb, ◌⊎◌, List, [], ◌∷◌, ◌++◌, map, length, get_or, replicate, Some as SomeOf, None, Option, sym, refl, ap, ◌∙◌, subst, ap₂, inl, inr, add-one, arith}
use Rattle.std.specs.List.{AllByRecursion as All}
use Rattle.std.proofs.lemmas.Bool.{cases_lt, both_ways, and_parts, ltb-true, ltb-false}
use Rattle.std.proofs.lemmas.List.{map-append, get_or-replicate, get_or_past, length-replicate}
use Rattle.model.specs.declared.condition.Condition.TheVariants.{Up}
use Rattle.model.specs.declared.party.Party.{Party}
use Rattle.model.specs.declared.party.Party.TheVariants.{Node as NodeParty, Coordinator as CoordinatorParty, Recovery as RecoveryParty}
use Rattle.model.specs.declared.vote.Vote.{Vote}
use Rattle.model.specs.Items.{Item}
use Rattle.model.specs.Numbers.{most_nodes}
use Rattle.model.specs.Cells.{Cell}
use Rattle.model.specs.Lists.{stands}
use Rattle.model.specs.Ranges.{items_at}
use Rattle.model.specs.Participants.{includes, members, participants_of}
use Rattle.model.specs.Messages.{Body, prepare, voted, finish, inquiry, reply, query, settled}
use Rattle.model.specs.Journal.{Entry, Journal, is_empty, oldest, past, no_entry}
use Rattle.model.specs.Node.{Doubt, Unresolved, journal_of, is_in_doubt, doubt_of, doubt_tid, no_doubt, is_unresolved, unresolved_of, unresolved_tid, no_unresolved}
use Rattle.model.specs.Cluster.{Cluster, Recovery, has_node, node_at, sent, to_each, new_recovery}
use Rattle.model.specs.Calls.{opening, prepare_to, inquiry_to, query_to, is_other, recovering_of}
use Rattle.model.specs.Deeds.{nothing, asked}
use Rattle.model.proofs.core.Lists.{Some, has, all_map, all_push, all_append, some_map}
use Rattle.model.proofs.core.State as core
use Rattle.model.proofs.core.State.{Claim, says_prepare, says_vote, says_reply, says_inquiry, says_query, prepare_each, Past, State, saw_at, prepares, prepares_in, state_with_network}
use Rattle.model.proofs.core.Facts.{Justified, Extends}
use Rattle.model.proofs.core.NetworkChange.{NetworkChange, opening as opening_change}
use Rattle.model.proofs.core.Justify.{standing_inquiry, behind_query}
use Rattle.model.proofs.bridge.Tests.{stands_some, found_is, found_all}
use Rattle.model.proofs.bridge.ItemBook.{item_book, item_book_lawful}
use Rattle.model.proofs.bridge.SerialMemories.{Within, has_members_below}
use Rattle.model.proofs.bridge.Abstraction.{Touched, cluster_seen, node_seen, entry_seen, entries_seen, claim_of}
use Rattle.model.proofs.bridge.Tables.{Open, EntryCopies, AboutRecovery, BodyFits, RecoveryFits, NodeFits, UnresolvedFits, coordinator_stays, recovery_stays, messages_stay}
use Rattle.model.proofs.bridge.Sound.{Sound, Step, network_sound, network_extended, agreed, claims_justified}
use Rattle.model.proofs.bridge.Talk.{step_sends, each_justified, each_fits, each_no_prepare}

pub no_votes : {A : Type 0} (n q : ℕ) (a : A) → get_or (replicate n None) q None ≡ SomeOf a → ⊥
no_votes {A = A} n q a h = go (cases_lt q n)
  where
    bad : {A : Type 0} (a : A) → None ≡ SomeOf a → ⊥
    bad a e = let z : ◌≡◌ {A = ℕ} 0 1 = cc in omega arith

    go : ((q < n) ⊎ (n ≤ q)) → ⊥
    go (inl l) = bad a (sym (get_or-replicate n q None None l) ∙ h)
    go (inr l) = bad a (sym (get_or_past (replicate n None) q None (omega (arith, length-replicate {A = Option A} n None))) ∙ h)

module _ (items : ℕ → List Item) (sizes : ℕ → ℕ) (count : ℕ) (within : (n : ℕ) → Within sizes count (items n))
    (h : Past Cell) (w : Touched) (c : Cluster) (s : Sound items sizes count h w c) where
  abbrev B : core.Book Cell
  B = item_book items

  abbrev S : State Cell
  S = cluster_seen h w c

  -- an entry of the rules, as the core sees it
  stands_seen : (q n : ℕ) → Open items n (journal_of (node_at c q)).entries → Some (λ (e : core.Entry). e.tid ≡ n) (S.nodes q).entries
  unfolding cluster_seen
  stands_seen q n x = some_map _ _ (λ e z. z.0) (entries_seen (journal_of (node_at c q)).entries) x

  inquired_stands : (q n : ℕ) → Some (λ (e : core.Entry). (e.tid ≡ n) × ((journal_of (node_at c q)).pointer < e.number)) (entries_seen (journal_of (node_at c q)).entries) → Some (λ (e : core.Entry). e.tid ≡ n) (S.nodes q).entries
  unfolding cluster_seen
  inquired_stands q n x = some_map _ _ (λ e z. z.0) (entries_seen (journal_of (node_at c q)).entries) x

  -- ## recover

  more_about : (last tid : ℕ) (new : Recovery) → new.number ≡ last + 1 → (n : ℕ) (who : Party) → AboutRecovery items last c.recoveries n who → AboutRecovery items (last + 1) (c.recoveries ++ new ∷ []) n who
  more_about last tid new e n (NodeParty q) a = tt
  more_about last tid new e n CoordinatorParty a = tt
  more_about last tid new e n (RecoveryParty r) a = (omega (arith, a.0), all_push _ c.recoveries new a.1 (λ z. absurd (omega (arith, a.0, e, z))))

  more_fits : (last tid : ℕ) (new : Recovery) → new.number ≡ last + 1 → (b : Body) (n : ℕ) (from to : Party) → BodyFits items S last c.recoveries b n from to → BodyFits items S (last + 1) (c.recoveries ++ new ∷ []) b n from to
  more_fits last tid new e (prepare ps is) n from to a = a
  more_fits last tid new e (voted v bs) n from to a = a
  more_fits last tid new e (finish b) n from to a = a
  more_fits last tid new e inquiry n from to a = more_about last tid new e n from a
  more_fits last tid new e (reply b) n from to a = (more_about last tid new e n to a.0, a.1)
  more_fits last tid new e query n from to a = a
  more_fits last tid new e settled n from to a = a

  pub step_recovers : (q tid : ℕ) → q < length c.nodes → (node_at c q).volatile.condition ≡ Up → is_in_doubt (node_at c q).volatile tid ≡ true → Step items sizes count h w c nothing (recovering_of c q tid).1
  unfolding prepares_in
  step_recovers q tid l up_here doubt =
      step_sends items sizes count h w c s (to_each ps (inquiry_to tid (RecoveryParty number))) c.coordinators (c.recoveries ++ new ∷ []) number
      (each_no_prepare (inquiry_to tid (RecoveryParty number)) (λ _ _ _. refl) (members ps))
      (each_justified (Justified B S) (inquiry_to tid (RecoveryParty number)) (members ps) (λ p z. standing_inquiry B S (agreed items sizes count h w c s) tid q p standing (subst (λ qs. has p (members qs) ≡ true) copy z)))
      s.tables.coordinators
      (all_push _ c.recoveries new (all_map _ _ (λ r f. record { given = omega (arith, f.given); participants = f.participants; replies = f.replies }) c.recoveries s.tables.recoveries)
      (record { given = omega arith; participants = copy; replies = λ p b z. absurd (no_votes most_nodes p b z) }))
      (all_append _ c.network _ (all_map _ _ (λ m a. more_fits c.last_recovery tid new refl m.body m.tid m.sender m.receiver a) c.network s.tables.messages)
      (each_fits _ (inquiry_to tid (RecoveryParty number)) (members ps)
      (λ p. (omega arith, all_push _ c.recoveries new (all_map (RecoveryFits items S c.last_recovery) _ (λ r f z. absurd (omega (arith, f.given, z))) c.recoveries s.tables.recoveries) (λ _. refl)))))
    where
      ps : ℕ
      ps = (doubt_of (node_at c q).volatile tid).participants

      number : ℕ
      number = c.last_recovery + 1

      new : Recovery
      new = new_recovery number tid ps

      fits : NodeFits items S sizes q (node_at c q)
      fits = s.tables.nodes q l

      there : Some (λ (d : Doubt). d.tid ≡ tid) (node_at c q).volatile.in_doubt
      there = stands_some doubt_tid tid (node_at c q).volatile.in_doubt doubt

      copy : ps ≡ participants_of (items tid)
      copy = (found_all doubt_tid tid (λ (d : Doubt). (d.participants ≡ participants_of (items d.tid)) × (d.items ≡ items_at q (items d.tid))) (node_at c q).volatile.in_doubt no_doubt there fits.doubts).0
          ∙ ap (λ n. participants_of (items n)) (found_is doubt_tid tid (node_at c q).volatile.in_doubt no_doubt there)

      standing : Some (λ (e : core.Entry). e.tid ≡ tid) (S.nodes q).entries
      standing = stands_seen q tid (fits.doubts_open up_here tid there)

  -- ## inquire and query

  -- another node that participates
  other_has : (q ps other n : ℕ) → ps ≡ participants_of (items n) → is_other c q ps other ≡ true → has other (members (participants_of (items n))) ≡ true
  other_has q ps other n e o =
      let v = and_parts (has_node c other && not (eqb other q)) (includes ps other) o in
      let l = ltb-true other (length c.nodes) (and_parts (has_node c other) (not (eqb other q)) v.0).0 in
      has_members_below most_nodes other (participants_of (items n)) (omega (arith, l, s.tables.number, (within n).few)) ∙ subst (λ z. includes z other ≡ true) e v.1

  pub step_inquires : (q tid other : ℕ) → q < length c.nodes → is_unresolved (node_at c q).volatile tid ≡ true → is_other c q (unresolved_of (node_at c q).volatile tid).participants other ≡ true
      → Step items sizes count h w c nothing (sent c (inquiry_to tid (NodeParty q) other ∷ []))
  unfolding prepares_in prepares
  step_inquires q tid other l unresolved o =
      step_sends items sizes count h w c s (inquiry_to tid (NodeParty q) other ∷ []) c.coordinators c.recoveries c.last_recovery
      (λ n p. omega arith) (justified, tt) s.tables.coordinators s.tables.recoveries (all_append _ c.network _ s.tables.messages (tt, tt))
    where
      us : List Unresolved
      us = (node_at c q).volatile.unresolved

      there : Some (λ (u : Unresolved). u.tid ≡ tid) us
      there = stands_some unresolved_tid tid us (and_parts (stands unresolved_tid tid us) _ unresolved).0

      fits : UnresolvedFits items S (journal_of (node_at c q)) (unresolved_of (node_at c q).volatile tid)
      fits = found_all unresolved_tid tid (UnresolvedFits items S (journal_of (node_at c q))) us no_unresolved there (s.tables.nodes q l).unresolved

      same : (unresolved_of (node_at c q).volatile tid).tid ≡ tid
      same = found_is unresolved_tid tid us no_unresolved there

      justified : Justified B S (says_inquiry tid other)
      justified = standing_inquiry B S (agreed items sizes count h w c s) tid q other (inquired_stands q tid (subst (λ n. Some (λ (e : core.Entry). (e.tid ≡ n) × ((journal_of (node_at c q)).pointer < e.number)) (entries_seen (journal_of (node_at c q)).entries)) same fits.stands))
          (other_has q (unresolved_of (node_at c q).volatile tid).participants other tid (fits.participants ∙ ap (λ n. participants_of (items n)) same) o)

  -- the oldest entry, where there is one
  oldest_stands : (P : core.Entry → Type 0) (j : Journal) → is_empty j ≡ false → P (entry_seen (oldest j)) → Some P (entries_seen j.entries)
  oldest_stands P j e p = go j.entries e p
    where
      go : (es : List Entry) → eqb (length es) 0 ≡ false → P (entry_seen (get_or es 0 no_entry)) → Some P (entries_seen es)
      go [] e p = absurd (both_ways true e refl)
      go (x ∷ es) e p = inl p

  oldest_copies : (P : Entry → Type 0) (j : Journal) → is_empty j ≡ false → All P j.entries → P (oldest j)
  oldest_copies P j e a = go j.entries e a
    where
      go : (es : List Entry) → eqb (length es) 0 ≡ false → All P es → P (get_or es 0 no_entry)
      go [] e a = absurd (both_ways true e refl)
      go (x ∷ es) e a = a.0

  queried_behind : (q : ℕ) → is_empty (journal_of (node_at c q)) ≡ false → past (journal_of (node_at c q)) (oldest (journal_of (node_at c q))) ≡ false
      → Some (λ (e : core.Entry). (e.tid ≡ (oldest (journal_of (node_at c q))).tid) × (e.number ≤ (S.nodes q).pointer)) (S.nodes q).entries
  unfolding cluster_seen
  queried_behind q e l = oldest_stands _ (journal_of (node_at c q)) e (refl, ltb-false (journal_of (node_at c q)).pointer (oldest (journal_of (node_at c q))).running l)

  pub step_queries : (q other : ℕ) → q < length c.nodes → is_empty (journal_of (node_at c q)) ≡ false → past (journal_of (node_at c q)) (oldest (journal_of (node_at c q))) ≡ false
      → is_other c q (oldest (journal_of (node_at c q))).participants other ≡ true → Step items sizes count h w c nothing (sent c (query_to (oldest (journal_of (node_at c q))).tid q other ∷ []))
  unfolding prepares_in prepares
  step_queries q other l e b o =
      step_sends items sizes count h w c s (query_to n q other ∷ []) c.coordinators c.recoveries c.last_recovery
      (λ m p. omega arith) (
        behind_query B S (agreed items sizes count h w c s) n q other (queried_behind q e b)
            (other_has q (oldest j).participants other n (oldest_copies (EntryCopies items q) j e (s.tables.nodes q l).entries).0 o),
        tt,
      )
      s.tables.coordinators s.tables.recoveries (all_append _ c.network _ s.tables.messages (tt, tt))
    where
      j : Journal
      j = journal_of (node_at c q)

      n : ℕ
      n = (oldest j).tid

  -- ## open

  claims_of_prepares : (tid : ℕ) (is : List Item) (qs : List ℕ) → map claim_of (map (prepare_to tid is) qs) ≡ prepare_each tid qs
  unfolding prepare_each
  claims_of_prepares tid is [] = refl
  claims_of_prepares tid is (q ∷ qs) = ap (λ ms. says_prepare tid q ∷ ms) (claims_of_prepares tid is qs)

  -- the items are those that the book has for the next tid
  module _ (is : List Item) (next_items : items (c.last_tid + 1) ≡ is) where
    abbrev tid : ℕ
    tid = c.last_tid + 1

    abbrev c' : Cluster
    c' = (opening c is).1

    abbrev S' : State Cell
    S' = cluster_seen h w c'

    abbrev ms : List Claim
    ms = S.network ++ prepare_each S.next (B S.next).participants

    opened_seen : S' ≡ state_with_network S ms S.notes (suc S.next) S.past.verdicts
    unfolding cluster_seen
    opened_seen = rw (← next_items) (ap₂ (λ (cs : List Claim) (x : ℕ). record { nodes = λ q. node_seen (w q) (node_at c q); network = cs; notes = []; next = x; past = h })
        (map-append claim_of c.network (to_each (participants_of (items tid)) (prepare_to tid (items tid))) ∙ ap (λ cs. map claim_of c.network ++ cs) (claims_of_prepares tid (items tid) (members (participants_of (items tid)))))
        (add-one tid))

    change : NetworkChange B S ms S.notes (suc S.next) S.past.verdicts
    change = opening_change B S (agreed items sizes count h w c s) ((item_book_lawful items).participants_distinct S.next)

    x : Extends B S S'
    x = network_extended items sizes count h w c s c' ms (suc S.next) refl opened_seen change

    pub step_opens : Step items sizes count h w c (asked is) c'
    step_opens = record {
      past = h;
      extends = x;
      log = refl;
      made = refl;
      sound = network_sound items sizes count h w c s c' ms (suc S.next) refl opened_seen change
          (all_push _ c.coordinators _ (all_map _ _ (coordinator_stays items S S' x) c.coordinators s.tables.coordinators)
          (record {
            participants = ap participants_of (sym next_items);
            slots = length-replicate {A = List ℕ} most_nodes [] ∙ sym (length-replicate {A = Option Vote} most_nodes None);
            votes = λ q v z. absurd (no_votes most_nodes q v z);
            reads = λ q v z _. absurd (no_votes most_nodes q v z);
          }))
          (all_map _ _ (recovery_stays items S S' x c.last_recovery) c.recoveries s.tables.recoveries)
          (all_append _ c.network _ (messages_stay items S S' x c.last_recovery c.recoveries c.network (claims_justified items sizes count h w c s) s.tables.messages)
          (each_fits _ (prepare_to tid is) (members (participants_of is)) (λ q. (ap participants_of (sym next_items), ap (items_at q) (sym next_items)))));
    }
