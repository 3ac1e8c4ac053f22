-- Calls that send messages and change the tables of coordinators and recoveries: leave, decide, rule, stop, recover, inquire, query.
use Rattle.std.proofs.Common.{◌≡◌, ℕ, ◌+◌, Bool, true, false, eqb, List, [], ◌∷◌, ◌++◌, map, get_or, is_some, Some as SomeOf, None, Option, unwrap_or, sym, refl, ap, ◌∙◌, subst, arith}
use Rattle.std.specs.List.{remove, AllByRecursion as All}
use Rattle.std.proofs.lemmas.Bool.{both_ways, eq-eqb, or_right}
use Rattle.std.proofs.lemmas.List.{map-append}
use Rattle.model.specs.declared.party.Party.{Party}
use Rattle.model.specs.declared.party.Party.TheVariants.{Node as NodeParty, Coordinator as CoordinatorParty, Recovery as RecoveryParty}
use Rattle.model.specs.declared.vote.Vote.{Vote}
use Rattle.model.specs.declared.vote.Vote.TheVariants.{Busy}
use Rattle.model.specs.Items.{Item}
use Rattle.model.specs.Cells.{Cell}
use Rattle.model.specs.Lists.{place, joined_by}
use Rattle.model.specs.Ranges.{items_at}
use Rattle.model.specs.Participants.{members, participants_of, every_member}
use Rattle.model.specs.Messages.{Body, Message, prepare, voted, finish, inquiry, reply, query, settled}
use Rattle.model.specs.Cluster.{Cluster, Coordinator, Recovery, node_at, to_each, coordinator_tid, has_coordinator, coordinator_of, no_coordinator, has_voted, vote_from, is_yes, all_voted, decision, reads_of, recovery_number, has_recovery, recovery_of, no_recovery, has_replied, all_replied, ruling}
use Rattle.model.specs.Calls.{finish_to, without_recovery, deciding, ruling_of}
use Rattle.model.specs.Deeds.{nothing}
use Rattle.model.proofs.core.Lists.{has, all_map, all_each, all_append, every_has}
use Rattle.model.proofs.core.State as core
use Rattle.model.proofs.core.State.{Claim, says_vote, says_reply, says_finish, Past, State, saw_at, prepares, prepares_in, state_with_network}
use Rattle.model.proofs.core.Facts.{Justified, Known, Extends, extends_refl}
use Rattle.model.proofs.core.NetworkChange.{NetworkChange, sending}
use Rattle.model.proofs.core.Justify.{votes_known, replies_finish, known_finish}
use Rattle.model.proofs.bridge.Tests.{stands_some, found_is, found_all}
use Rattle.model.proofs.bridge.ItemEffects.{items_read, joined_by_alike}
use Rattle.model.proofs.bridge.ItemBook.{item_book}
use Rattle.model.proofs.bridge.SerialTurns.{reads_by_node}
use Rattle.model.proofs.bridge.Abstraction.{Touched, cluster_seen, node_seen, claim_of}
use Rattle.model.proofs.bridge.Tables.{AboutRecovery, BodyFits, CoordinatorFits, RecoveryFits, MessageFits, coordinator_stays, recovery_stays, messages_stay}
use Rattle.model.proofs.bridge.Sound.{Sound, Step, step_network, network_extended, agreed, claims_justified, all_removed}

-- ## Messages to each participant

all_map_each : {A C : Type 0} (P : C → Type 0) (f : A → C) (xs : List A) → All (λ x. P (f x)) xs → All P (map f xs)
all_map_each P f [] h = tt
all_map_each P f (x ∷ xs) h = (h.0, all_map_each P f xs h.1)

pub all_each_has : (P : ℕ → Type 0) (qs : List ℕ) → ((q : ℕ) → has q qs ≡ true → P q) → All P qs
unfolding has
all_each_has P [] f = tt
all_each_has P (q ∷ qs) f = (f q (rw (eq-eqb q q refl) refl), all_each_has P qs (λ p h. f p (or_right (eqb p q) (has p qs) h)))

pub each_justified : (P : Claim → Type 0) (f : ℕ → Message) (qs : List ℕ) → ((q : ℕ) → has q qs ≡ true → P (claim_of (f q))) → All P (map claim_of (map f qs))
each_justified P f qs h = all_map_each P claim_of (map f qs) (all_map_each (λ m. P (claim_of m)) f qs (all_each_has (λ q. P (claim_of (f q))) qs h))

pub each_fits : (P : Message → Type 0) (f : ℕ → Message) (qs : List ℕ) → ((q : ℕ) → P (f q)) → All P (map f qs)
each_fits P f qs h = all_map_each P f qs (all_each (λ q. P (f q)) h qs)

pub each_no_prepare : (f : ℕ → Message) → ((n p q : ℕ) → prepares_in n p (claim_of (f q)) ≡ 0) → (qs : List ℕ) (n p : ℕ) → prepares n p (map claim_of (map f qs)) ≡ 0
unfolding prepares
each_no_prepare f h [] n p = refl
each_no_prepare f h (q ∷ qs) n p = omega (arith, h n p q, each_no_prepare f h qs n p)

-- a cluster with other messages and tables
abbrev pub talked : Cluster → List Message → List Coordinator → List Recovery → ℕ → Cluster
talked c ms ks rs last = record { well_made = c.well_made; nodes = c.nodes; network = ms; coordinators = ks; recoveries = rs; last_tid = c.last_tid; last_recovery = last }

pub some_value : {A : Type 0} (o : Option A) → is_some o ≡ true → (a : A) × (o ≡ SomeOf a)
some_value (SomeOf a) h = (a, refl)
some_value None h = absurd (both_ways false refl h)

module _ (items : ℕ → List Item) (sizes : ℕ → ℕ) (count : ℕ) (h : Past Cell) (w : Touched) (c : Cluster) (s : Sound items sizes count h w c) where
  abbrev B : core.Book Cell
  B = item_book items

  abbrev S : State Cell
  S = cluster_seen h w c

  -- ## Sending

  talked_seen : (cs : List Message) (ks : List Coordinator) (rs : List Recovery) (last : ℕ)
      → cluster_seen h w (talked c (c.network ++ cs) ks rs last) ≡ state_with_network S (S.network ++ map claim_of cs) S.notes S.next S.past.verdicts
  unfolding cluster_seen
  talked_seen cs ks rs last = ap (λ (ms : List Claim). record { nodes = λ q. node_seen (w q) (node_at c q); network = ms; notes = []; next = c.last_tid + 1; past = h }) (map-append claim_of c.network cs)

  -- justified messages that fit are sent, and the tables become others that fit
  pub step_sends : (cs : List Message) (ks : List Coordinator) (rs : List Recovery) (last : ℕ) → ((n q : ℕ) → prepares n q (map claim_of cs) ≡ 0) → All (Justified B S) (map claim_of cs)
      → All (CoordinatorFits items S) ks → All (RecoveryFits items S last) rs → All (MessageFits items S last rs) (c.network ++ cs)
      → Step items sizes count h w c nothing (talked c (c.network ++ cs) ks rs last)
  step_sends cs ks rs last z j fk fr fm =
      step_network items sizes count h w c s c' (S.network ++ map claim_of cs) S.next refl (talked_seen cs ks rs last) g
      (all_map _ _ (coordinator_stays items S S' x) ks fk) (all_map _ _ (recovery_stays items S S' x last) rs fr)
      (messages_stay items S S' x last rs (c.network ++ cs) (subst (All (Justified B S)) (sym (map-append claim_of c.network cs)) (all_append (Justified B S) (map claim_of c.network) (map claim_of cs) (claims_justified items sizes count h w c s) j)) fm)
    where
      c' : Cluster
      c' = talked c (c.network ++ cs) ks rs last

      S' : State Cell
      S' = cluster_seen h w c'

      g : NetworkChange B S (S.network ++ map claim_of cs) S.notes S.next S.past.verdicts
      g = sending B S (agreed items sizes count h w c s) (map claim_of cs) S.notes S.past.verdicts z j (agreed items sizes count h w c s).notes (agreed items sizes count h w c s).verdicts

      x : Extends B S S'
      x = network_extended items sizes count h w c s c' (S.network ++ map claim_of cs) S.next refl (talked_seen cs ks rs last) g

  -- ## decide

  pub found_coordinator : (tid : ℕ) → has_coordinator c tid ≡ true → CoordinatorFits items S (coordinator_of c tid) × ((coordinator_of c tid).tid ≡ tid)
  found_coordinator tid there =
      let x = stands_some coordinator_tid tid c.coordinators there in
      (found_all coordinator_tid tid (CoordinatorFits items S) c.coordinators no_coordinator x s.tables.coordinators, found_is coordinator_tid tid c.coordinators no_coordinator x)

  -- the decision is known for good
  pub decision_known : (tid : ℕ) → has_coordinator c tid ≡ true → all_voted (coordinator_of c tid) ≡ true → Known B S tid (decision (coordinator_of c tid))
  decision_known tid there all =
      subst (λ ps. Known B S tid (every_member (λ q. is_yes (vote_from k q)) ps)) (sym copy)
      (votes_known B S (agreed items sizes count h w c s) tid (λ q. is_yes (vote_from k q)) one)
    where
      k : Coordinator
      k = coordinator_of c tid

      fits : CoordinatorFits items S k
      fits = (found_coordinator tid there).0

      same : k.tid ≡ tid
      same = (found_coordinator tid there).1

      copy : k.participants ≡ participants_of (items tid)
      copy = fits.participants ∙ ap (λ n. participants_of (items n)) same

      one : (q : ℕ) → has q (members (participants_of (items tid))) ≡ true → Justified B S (says_vote tid q (is_yes (vote_from k q)))
      one q z =
          let v = some_value (get_or k.votes q None) (every_has (has_voted k) (members (participants_of (items tid))) q (subst (λ ps. every_member (has_voted k) ps ≡ true) copy all) z) in
          let r : vote_from k q ≡ v.0 = ap (λ (o : Option Vote). unwrap_or o Busy) v.1 in
          subst (λ n. Justified B S (says_vote n q (is_yes (vote_from k q)))) same (subst (λ (u : Vote). Justified B S (says_vote k.tid q (is_yes u))) (sym r) (fits.votes q v.0 v.1))

  pub step_decides : (tid : ℕ) → has_coordinator c tid ≡ true → all_voted (coordinator_of c tid) ≡ true → Step items sizes count h w c nothing (deciding c tid).1
  unfolding prepares_in
  step_decides tid there all =
      step_sends (to_each (coordinator_of c tid).participants (finish_to tid CoordinatorParty (decision (coordinator_of c tid)))) (remove c.coordinators (place coordinator_tid tid c.coordinators)) c.recoveries c.last_recovery
      (each_no_prepare (finish_to tid CoordinatorParty (decision (coordinator_of c tid))) (λ _ _ _. refl) (members (coordinator_of c tid).participants))
      (each_justified (Justified B S) (finish_to tid CoordinatorParty (decision (coordinator_of c tid))) (members (coordinator_of c tid).participants)
      (λ q _. known_finish B S (agreed items sizes count h w c s) tid (decision (coordinator_of c tid)) (decision_known tid there all)))
      (all_removed _ (place coordinator_tid tid c.coordinators) c.coordinators s.tables.coordinators)
      s.tables.recoveries
      (all_append _ c.network _ s.tables.messages (each_fits _ (finish_to tid CoordinatorParty (decision (coordinator_of c tid))) (members (coordinator_of c tid).participants) (λ q. tt)))

  -- the bytes that a decide gives with a yes are those that the nodes saw
  pub reads_given : (tid : ℕ) → has_coordinator c tid ≡ true → all_voted (coordinator_of c tid) ≡ true → decision (coordinator_of c tid) ≡ true
      → reads_of (coordinator_of c tid) ≡ reads_by_node (saw_at S tid) (items tid)
  reads_given tid there all yes_all =
      subst (λ n. reads_of k ≡ reads_by_node (saw_at S n) (items n)) same
      (ap (λ ps. joined_by (λ q. get_or k.reads q []) (members ps)) fits.participants
      ∙ joined_by_alike (λ q. get_or k.reads q []) (λ q. items_read (saw_at S k.tid q) (items_at q (items k.tid))) (members (participants_of (items k.tid)))
      (all_each_has _ (members (participants_of (items k.tid))) one))
    where
      k : Coordinator
      k = coordinator_of c tid

      fits : CoordinatorFits items S k
      fits = (found_coordinator tid there).0

      same : k.tid ≡ tid
      same = (found_coordinator tid there).1

      one : (q : ℕ) → has q (members (participants_of (items k.tid))) ≡ true → get_or k.reads q [] ≡ items_read (saw_at S k.tid q) (items_at q (items k.tid))
      one q z =
          let v = some_value (get_or k.votes q None) (every_has (has_voted k) (members (participants_of (items k.tid))) q (subst (λ ps. every_member (has_voted k) ps ≡ true) fits.participants all) z) in
          let y = every_has (λ q. is_yes (vote_from k q)) (members (participants_of (items k.tid))) q (subst (λ ps. every_member (λ q. is_yes (vote_from k q)) ps ≡ true) fits.participants yes_all) z in
          let r : vote_from k q ≡ v.0 = ap (λ (o : Option Vote). unwrap_or o Busy) v.1 in
          fits.reads q v.0 v.1 (subst (λ (u : Vote). is_yes u ≡ true) r y)

  -- ## rule and stop

  found_recovery : (r : ℕ) → has_recovery c r ≡ true → RecoveryFits items S c.last_recovery (recovery_of c r)
  found_recovery r there = found_all recovery_number r (RecoveryFits items S c.last_recovery) c.recoveries no_recovery (stands_some recovery_number r c.recoveries there) s.tables.recoveries

  ruling_justified : (r : ℕ) → has_recovery c r ≡ true → all_replied (recovery_of c r) ≡ true → Justified B S (says_finish (recovery_of c r).tid (ruling (recovery_of c r)))
  ruling_justified r there all =
      subst (λ ps. Justified B S (says_finish k.tid (every_member (λ q. unwrap_or (get_or k.replies q None) false) ps))) (sym fits.participants)
      (replies_finish B S (agreed items sizes count h w c s) k.tid (λ q. unwrap_or (get_or k.replies q None) false) one)
    where
      k : Recovery
      k = recovery_of c r

      fits : RecoveryFits items S c.last_recovery k
      fits = found_recovery r there

      one : (q : ℕ) → has q (members (participants_of (items k.tid))) ≡ true → Justified B S (says_reply k.tid q (unwrap_or (get_or k.replies q None) false))
      one q z =
          let v = some_value (get_or k.replies q None) (every_has (has_replied k) (members (participants_of (items k.tid))) q (subst (λ ps. every_member (has_replied k) ps ≡ true) fits.participants all) z) in
          let e : unwrap_or (get_or k.replies q None) false ≡ v.0 = ap (λ (o : Option Bool). unwrap_or o false) v.1 in
          subst (λ b. Justified B S (says_reply k.tid q b)) (sym e) (fits.replies q v.0 v.1)

  -- fewer recoveries: what is said of each still is
  about_fewer : (rs rs' : List Recovery) → ((P : Recovery → Type 0) → All P rs → All P rs') → (last tid : ℕ) (who : Party) → AboutRecovery items last rs tid who → AboutRecovery items last rs' tid who
  about_fewer rs rs' f last tid (NodeParty q) a = tt
  about_fewer rs rs' f last tid CoordinatorParty a = tt
  about_fewer rs rs' f last tid (RecoveryParty r) a = (a.0, f _ a.1)

  body_fewer : (rs rs' : List Recovery) → ((P : Recovery → Type 0) → All P rs → All P rs') → (last : ℕ) (b : Body) (tid : ℕ) (from to : Party) → BodyFits items S last rs b tid from to → BodyFits items S last rs' b tid from to
  body_fewer rs rs' f last (prepare ps is) tid from to a = a
  body_fewer rs rs' f last (voted v bs) tid from to a = a
  body_fewer rs rs' f last (finish b) tid from to a = a
  body_fewer rs rs' f last inquiry tid from to a = about_fewer rs rs' f last tid from a
  body_fewer rs rs' f last (reply b) tid from to a = (about_fewer rs rs' f last tid to a.0, a.1)
  body_fewer rs rs' f last query tid from to a = a
  body_fewer rs rs' f last settled tid from to a = a

  without_recovery_fits : (r : ℕ) → All (MessageFits items S c.last_recovery (remove c.recoveries (place recovery_number r c.recoveries))) c.network
  without_recovery_fits r = all_map _ _ (λ m a. body_fewer c.recoveries (remove c.recoveries (place recovery_number r c.recoveries)) (λ P z. all_removed P (place recovery_number r c.recoveries) c.recoveries z) c.last_recovery m.body m.tid m.sender m.receiver a) c.network s.tables.messages

  pub step_rules : (r : ℕ) → has_recovery c r ≡ true → all_replied (recovery_of c r) ≡ true → Step items sizes count h w c nothing (ruling_of c r).1
  unfolding prepares_in
  step_rules r there all =
      step_sends (to_each (recovery_of c r).participants f) c.coordinators (remove c.recoveries (place recovery_number r c.recoveries)) c.last_recovery
      (each_no_prepare f (λ _ _ _. refl) (members (recovery_of c r).participants))
      (each_justified (Justified B S) f (members (recovery_of c r).participants) (λ q _. ruling_justified r there all))
      s.tables.coordinators
      (all_removed _ (place recovery_number r c.recoveries) c.recoveries s.tables.recoveries)
      (all_append _ c.network _ (without_recovery_fits r) (each_fits _ f (members (recovery_of c r).participants) (λ q. tt)))
    where
      f : ℕ → Message
      f = finish_to (recovery_of c r).tid (RecoveryParty r) (ruling (recovery_of c r))

  pub step_stops : (r : ℕ) → Step items sizes count h w c nothing (without_recovery c r)
  unfolding cluster_seen
  step_stops r = record {
    past = h;
    extends = extends_refl B S;
    log = refl;
    made = refl;
    sound = record {
      invariant = s.invariant;
      tables = record {
        number = s.tables.number;
        nodes = s.tables.nodes;
        coordinators = s.tables.coordinators;
        recoveries = all_removed _ (place recovery_number r c.recoveries) c.recoveries s.tables.recoveries;
        messages = without_recovery_fits r;
      };
    };
  }
