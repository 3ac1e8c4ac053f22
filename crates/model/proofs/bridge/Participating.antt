-- Every coordinator of a history has a participant: a request has an item, and no call takes one away.
use Rattle.std.proofs.Common.{◌≡◌, ℕ, zero, suc, ◌<◌, ◌≤◌, true, ◌||◌, eqb, ltb, List, [], ◌∷◌, length, get_or, drop, Some as SomeOf, None, Option, sym, refl, ap, ◌∙◌, subst, arith}
use Rattle.std.specs.List.{remove, AllByRecursion as All}
use Rattle.std.specs.Option.{option_map}
use Rattle.std.proofs.lemmas.Bool.{cond_both, not-false, or_parts, ltb-true, ltb-false, eq-eqb, or_left}
use Rattle.model.specs.declared.party.Party.{Party}
use Rattle.model.specs.declared.party.Party.TheVariants.{Node as NodeParty, Coordinator as CoordinatorParty, Recovery as RecoveryParty}
use Rattle.model.specs.declared.refusal.Refusal.{Refusal}
use Rattle.model.specs.Items.{Item}
use Rattle.model.specs.ItemFormat.{decode_item, decode_items, decode_list, then_items}
use Rattle.model.specs.Numbers.{most_nodes, most_items}
use Rattle.model.specs.Requests.{is_record, decode_request}
use Rattle.model.specs.Lists.{place, some}
use Rattle.model.specs.Ranges.{node_of}
use Rattle.model.specs.Participants.{members, is_named, participants_of}
use Rattle.model.specs.Messages.{Body, Message, prepare, voted, finish, inquiry, reply, query, settled}
use Rattle.model.specs.Answers.{Answer, done}
use Rattle.model.specs.Writes.{Stores}
use Rattle.model.specs.Node.{Left}
use Rattle.model.specs.Handling.{Effect, Reaction, lost, taken, reaction, resuming, settling, collecting}
use Rattle.model.specs.Making.{making}
use Rattle.model.specs.Cluster.{Cluster, Coordinator, has_node, node_at, coordinator_tid, has_coordinator, coordinator_of, no_coordinator, has_voted, has_recovery}
use Rattle.model.specs.Calls.{Call, opens, delivers, loses, decides, leaves, recovers, rules, stops, cuts, wakes, inquires, resumes, settles, queries, collects, shows, Result, first_of, answered, open_refusals, opening, open_items, carried, reacted, coordinator_hears, delivered_to, message_at, without_message, resume_refusals, settle_refusals, collect_refusals, performed, step}
use Rattle.model.specs.History.{Event, following}
use Rattle.model.proofs.Bounding.{kept_following}
use Rattle.model.proofs.core.Lists.{has, all_push}
use Rattle.model.proofs.bridge.Tests.{some_none, stands_some, found_all}
use Rattle.model.proofs.bridge.ItemBook.{participant_named}
use Rattle.model.proofs.bridge.SerialMemories.{has_members_below}
use Rattle.model.proofs.bridge.Sound.{all_removed}
use Rattle.model.proofs.bridge.WriteSteps.{all_set}
use Rattle.model.proofs.bridge.Performs.{first_none}

-- ## Requests

mapped_some : (i : Item) (o : Option (List Item)) → option_map (λ js. i ∷ js) o ≡ SomeOf [] → ⊥
mapped_some i None h = let z : ◌≡◌ {A = ℕ} 0 1 = cc in omega arith
mapped_some i (SomeOf js) h = let e : i ∷ js ≡ [] = cc in let z : ◌≡◌ {A = ℕ} 0 1 = cc in omega arith

items_some : (n : ℕ) (bs : List ℕ) → 0 < n → decode_items n bs ≡ SomeOf [] → ⊥
unfolding decode_items
items_some zero bs l h = omega arith
items_some (suc n) bs l h = go (decode_item bs) h
  where
    go : (o : Option (Item × List ℕ)) → then_items o (λ rest. decode_items n rest) ≡ SomeOf [] → ⊥
    go None h = let z : ◌≡◌ {A = ℕ} 0 1 = cc in omega arith
    go (SomeOf (i, rest)) h = mapped_some i (decode_items n rest) h

list_some : (bs : List ℕ) → decode_list bs ≡ SomeOf [] → ⊥
list_some bs = cond_both (ltb (length bs) 1) _ _ (λ (o : Option (List Item)). o ≡ SomeOf [] → ⊥) (λ _ h. none h)
    (λ _. cond_both (ltb (get_or bs 0 0) 1 || ltb most_items (get_or bs 0 0)) _ _ (λ (o : Option (List Item)). o ≡ SomeOf [] → ⊥) (λ _ h. none h)
    (λ e. items_some (get_or bs 0 0) (drop 1 bs) (ltb-false (get_or bs 0 0) 1 (or_parts (ltb (get_or bs 0 0) 1) (ltb most_items (get_or bs 0 0)) e).0)))
  where
    none : ◌≡◌ {A = Option (List Item)} None (SomeOf []) → ⊥
    none h = let z : ◌≡◌ {A = ℕ} 0 1 = cc in omega arith

-- what is read from a request has an item
request_some : (bs : List ℕ) → decode_request bs ≡ SomeOf [] → ⊥
unfolding decode_request
request_some bs = cond_both (is_record bs) _ _ (λ (o : Option (List Item)). o ≡ SomeOf [] → ⊥) (λ _. list_some (drop 3 bs)) (λ _ h. let z : ◌≡◌ {A = ℕ} 0 1 = cc in omega arith)

-- ## Participants

abbrev pub SomeMember : ℕ → Type 0
SomeMember ps = (q : ℕ) × (has q (members ps) ≡ true)

abbrev HasParticipant : Coordinator → Type 0
HasParticipant k = SomeMember k.participants

named_first : (i : Item) (is : List Item) → is_named (node_of i) (i ∷ is) ≡ true
unfolding some
named_first i is = or_left (eqb (node_of i) (node_of i)) (is_named (node_of i) is) (eq-eqb (node_of i) (node_of i) refl)

module _ (c : Cluster) (few : length c.nodes ≤ most_nodes) where
  opened_member : (is : List Item) → (is ≡ [] → ⊥) → first_of (open_refusals c is) ≡ None → SomeMember (participants_of is)
  opened_member [] n e = absurd (n refl)
  opened_member (i ∷ is) n e =
      let x = (some_none _ (i ∷ is) (first_none _ _ _ e).0).0 in
      let l = ltb-true (node_of i) (length c.nodes) (not-false (has_node c (node_of i)) x) in
      let m : node_of i < most_nodes = omega arith in
      (node_of i, has_members_below most_nodes (node_of i) (participants_of (i ∷ is)) m ∙ participant_named (i ∷ is) (node_of i) m ∙ named_first i is)

  -- ## Calls

  module _ (a : All HasParticipant c.coordinators) where
    answered_participates : (r : Option Refusal) (x : Result) → (r ≡ None → All HasParticipant x.1.coordinators) → All HasParticipant (answered r c x).1.coordinators
    answered_participates None x f = f refl
    answered_participates (SomeOf r) x f = a

    opened_participates : (o : Option (List Item)) → (o ≡ SomeOf [] → ⊥) → All HasParticipant (open_items c o).1.coordinators
    unfolding open_items
    opened_participates None n = a
    opened_participates (SomeOf is) n = answered_participates (first_of (open_refusals c is)) (opening c is) (λ e. all_push HasParticipant c.coordinators _ a (opened_member is (λ z. n (ap SomeOf z)) e))

    removed_participates : (tid : ℕ) → All HasParticipant (remove c.coordinators (place coordinator_tid tid c.coordinators))
    removed_participates tid = all_removed HasParticipant (place coordinator_tid tid c.coordinators) c.coordinators a

carried_same : (c : Cluster) (q budget : ℕ) (e : Effect) (a : Answer) → (carried c q budget e a).1.coordinators ≡ c.coordinators
unfolding carried
carried_same c q budget e a = cond_both _ _ _ (λ (r : Result). r.1.coordinators ≡ c.coordinators) (λ _. refl) (λ _. refl)

hears_participates : (k : Coordinator) (who : Party) (b : Body) → (coordinator_hears k who b).participants ≡ k.participants
hears_participates k (NodeParty q) (prepare ps is) = refl
hears_participates k (NodeParty q) (voted v bs) = cond_both (has_voted k q) _ _ (λ (j : Coordinator). j.participants ≡ k.participants) (λ _. refl) (λ _. refl)
hears_participates k (NodeParty q) (finish b) = refl
hears_participates k (NodeParty q) inquiry = refl
hears_participates k (NodeParty q) (reply b) = refl
hears_participates k (NodeParty q) query = refl
hears_participates k (NodeParty q) settled = refl
hears_participates k CoordinatorParty b = refl
hears_participates k (RecoveryParty r) b = refl

carried_participates : (c : Cluster) (r : Option Refusal) (q budget : ℕ) (e : Effect) (x : Answer) → All HasParticipant c.coordinators → All HasParticipant (answered r c (carried c q budget e x)).1.coordinators
carried_participates c None q budget e x a = subst (All HasParticipant) (sym (carried_same c q budget e x)) a
carried_participates c (SomeOf r) q budget e x a = a

reacted_participates : (c : Cluster) (q budget : ℕ) (r : Reaction) → All HasParticipant c.coordinators → All HasParticipant (reacted c q budget r).1.coordinators
reacted_participates c q budget lost a = a
reacted_participates c q budget (taken e) a = subst (All HasParticipant) (sym (carried_same c q budget e _)) a

delivered_participates : (to : Party) (c : Cluster) (m : Message) (budget : ℕ) → All HasParticipant c.coordinators → All HasParticipant (delivered_to to c m budget).1.coordinators
delivered_participates (NodeParty q) c m budget a = reacted_participates c q budget (reaction q (node_at c q) m) a
delivered_participates CoordinatorParty c m budget a = cond_both (has_coordinator c m.tid) _ _ (λ (r : Result). All HasParticipant r.1.coordinators)
    (λ z. all_set HasParticipant c.coordinators (place coordinator_tid m.tid c.coordinators) _ a
    (λ _. subst SomeMember (sym (hears_participates (coordinator_of c m.tid) m.sender m.body)) (found_all coordinator_tid m.tid HasParticipant c.coordinators no_coordinator (stands_some coordinator_tid m.tid c.coordinators z) a)))
    (λ _. a)
delivered_participates (RecoveryParty r) c m budget a = cond_both (has_recovery c r) _ _ (λ (r : Result). All HasParticipant r.1.coordinators) (λ _. a) (λ _. a)

performed_participates : (c : Cluster) → length c.nodes ≤ most_nodes → All HasParticipant c.coordinators → (call : Call) (left : Left) → All HasParticipant (performed c call left).1.coordinators
unfolding performed
performed_participates c few a (opens bs) left = opened_participates c few a (decode_request bs) (request_some bs)
performed_participates c few a (delivers i budget) left = answered_participates c few a _ _ (λ _. delivered_participates (message_at c i).receiver (without_message c i) (message_at c i) budget a)
performed_participates c few a (loses i) left = answered_participates c few a _ _ (λ _. a)
performed_participates c few a (decides tid buffer) left = answered_participates c few a _ _ (λ _. removed_participates c few a tid)
performed_participates c few a (leaves tid) left = answered_participates c few a _ _ (λ _. removed_participates c few a tid)
performed_participates c few a (recovers q tid) left = answered_participates c few a _ _ (λ _. a)
performed_participates c few a (rules r) left = answered_participates c few a _ _ (λ _. a)
performed_participates c few a (stops r) left = answered_participates c few a _ _ (λ _. a)
performed_participates c few a (cuts q) left = answered_participates c few a _ _ (λ _. a)
performed_participates c few a (wakes q) left = answered_participates c few a _ _ (λ _. a)
performed_participates c few a (inquires q tid other) left = answered_participates c few a _ _ (λ _. a)
performed_participates c few a (resumes q budget) left = carried_participates c (first_of (resume_refusals c q)) q budget (resuming (node_at c q)) done a
performed_participates c few a (settles q budget) left = carried_participates c (first_of (settle_refusals c q)) q budget (settling (node_at c q)) done a
performed_participates c few a (queries q other) left = answered_participates c few a _ _ (λ _. a)
performed_participates c few a (collects q budget) left = carried_participates c (first_of (collect_refusals c q)) q budget (collecting (node_at c q)) done a
performed_participates c few a (shows q b n) left = answered_participates c few a _ _ (λ _. a)

step_participates : (c : Cluster) → length c.nodes ≤ most_nodes → All HasParticipant c.coordinators → (call : Call) (left : Left) → All HasParticipant (step c call left).1.coordinators
unfolding step
step_participates c few a call left = cond_both c.well_made _ _ (λ (r : Result). All HasParticipant r.1.coordinators) (λ _. performed_participates c few a call left) (λ _. a)

-- ## Histories

module _ (made : List Stores) (few : length made ≤ most_nodes) where
  all_participate : (es : List Event) → All HasParticipant (following made es).coordinators
  unfolding following making
  all_participate [] = tt
  all_participate (e ∷ es) = step_participates (following made es) (subst (λ n. n ≤ most_nodes) (sym (kept_following made es).1) few) (all_participate es) e.call e.left

  pub coordinator_participates : (es : List Event) (tid : ℕ) → has_coordinator (following made es) tid ≡ true → SomeMember (coordinator_of (following made es) tid).participants
  coordinator_participates es tid there =
      found_all coordinator_tid tid HasParticipant (following made es).coordinators no_coordinator (stands_some coordinator_tid tid (following made es).coordinators there) (all_participate es)
