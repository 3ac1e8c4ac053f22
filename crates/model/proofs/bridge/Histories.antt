-- Sound along a whole history: every call is a step, tids are given in order, and the book has the items of each.
use Rattle.std.proofs.Common.{◌≡◌, ℕ, ◌+◌, Bool, true, false, cond, List, Some as SomeOf, None, Option, refl, ap, ◌∙◌, subst, arith}
use Rattle.std.proofs.lemmas.Bool.{cond_both}
use Rattle.model.specs.declared.party.Party.{Party}
use Rattle.model.specs.declared.party.Party.TheVariants.{Node as NodeParty, Coordinator as CoordinatorParty, Recovery as RecoveryParty}
use Rattle.model.specs.declared.refusal.Refusal.{Refusal}
use Rattle.model.specs.declared.refusal.Refusal.TheVariants.{WrongCondition}
use Rattle.model.specs.Items.{Item}
use Rattle.model.specs.Cells.{Cell}
use Rattle.model.specs.Requests.{decode_request}
use Rattle.model.specs.Answers.{Answer, done, refused}
use Rattle.model.specs.Messages.{Message}
use Rattle.model.specs.Node.{Left, recovering as restarting}
use Rattle.model.specs.Cluster.{Cluster, node_at, with_node, has_coordinator, has_recovery}
use Rattle.model.specs.Handling.{Effect, Reaction, lost, taken, reaction}
use Rattle.model.specs.Calls.{Call, opens, delivers, loses, decides, leaves, recovers, rules, stops, cuts, wakes, inquires, resumes, settles, queries, collects, shows, Result, first_of, open_refusals, opening, open_items, answered, carried, reacted, delivered_to, message_at, without_message, wake_refusals, performed, step}
use Rattle.model.specs.Deeds.{Deed, asked, wrote, woke, nothing, unless, deed_of, asked_for, reacted_with, received_by, deed}
use Rattle.model.specs.History.{LeftBy}
use Rattle.model.proofs.core.State.{Past}
use Rattle.model.proofs.bridge.SerialMemories.{Within}
use Rattle.model.proofs.bridge.Abstraction.{Touched}
use Rattle.model.proofs.bridge.Sound.{Sound, Step, step_nothing}
use Rattle.model.proofs.bridge.Performs.{step_performs}

-- ## The tids given

-- only an opening gives one
abbrev pub tids_after : Deed → ℕ → ℕ
tids_after (asked is) n = n + 1
tids_after (wrote q ws) n = n
tids_after (woke q) n = n
tids_after nothing n = n

answered_tids : (c : Cluster) (r : Option Refusal) (d : Deed) (x : Result) → x.1.last_tid ≡ tids_after d c.last_tid → (answered r c x).1.last_tid ≡ tids_after (unless r d) c.last_tid
answered_tids c None d x e = e
answered_tids c (SomeOf r) d x e = refl

plain_tids : (c : Cluster) (r : Option Refusal) (x : Result) → x.1.last_tid ≡ c.last_tid → (answered r c x).1.last_tid ≡ c.last_tid
plain_tids c None x e = e
plain_tids c (SomeOf r) x e = refl

carried_tids : (c : Cluster) (q budget : ℕ) (e : Effect) (a : Answer) → (carried c q budget e a).1.last_tid ≡ c.last_tid
unfolding carried
carried_tids c q budget e a = cond_both _ _ _ (λ (r : Result). r.1.last_tid ≡ c.last_tid) (λ _. refl) (λ _. refl)

reacted_tids : (c : Cluster) (q budget : ℕ) (r : Reaction) → (reacted c q budget r).1.last_tid ≡ tids_after (reacted_with q budget r) c.last_tid
reacted_tids c q budget lost = refl
reacted_tids c q budget (taken e) = carried_tids c q budget e _

delivered_tids : (to : Party) (c : Cluster) (m : Message) (budget : ℕ) → (delivered_to to c m budget).1.last_tid ≡ tids_after (received_by to c m budget) c.last_tid
delivered_tids (NodeParty q) c m budget = reacted_tids c q budget (reaction q (node_at c q) m)
delivered_tids CoordinatorParty c m budget = cond_both (has_coordinator c m.tid) _ _ (λ (r : Result). r.1.last_tid ≡ c.last_tid) (λ _. refl) (λ _. refl)
delivered_tids (RecoveryParty r) c m budget = cond_both (has_recovery c r) _ _ (λ (r : Result). r.1.last_tid ≡ c.last_tid) (λ _. refl) (λ _. refl)

opened_tids : (c : Cluster) (o : Option (List Item)) → (open_items c o).1.last_tid ≡ tids_after (asked_for c o) c.last_tid
unfolding open_items
opened_tids c None = refl
opened_tids c (SomeOf is) = answered_tids c (first_of (open_refusals c is)) (asked is) (opening c is) refl

performed_tids : (c : Cluster) (call : Call) (left : Left) → (performed c call left).1.last_tid ≡ tids_after (deed_of c call) c.last_tid
unfolding performed
performed_tids c (opens bs) left = opened_tids c (decode_request bs)
performed_tids c (delivers i budget) left = answered_tids c _ _ _ (delivered_tids (message_at c i).receiver (without_message c i) (message_at c i) budget)
performed_tids c (loses i) left = plain_tids c _ _ refl
performed_tids c (decides tid buffer) left = plain_tids c _ _ refl
performed_tids c (leaves tid) left = plain_tids c _ _ refl
performed_tids c (recovers q tid) left = plain_tids c _ _ refl
performed_tids c (rules r) left = plain_tids c _ _ refl
performed_tids c (stops r) left = plain_tids c _ _ refl
performed_tids c (cuts q) left = plain_tids c _ _ refl
performed_tids c (wakes q) left = answered_tids c (first_of (wake_refusals c q)) (woke q) (done, with_node c q (restarting q (node_at c q) left)) refl
performed_tids c (inquires q tid other) left = plain_tids c _ _ refl
performed_tids c (resumes q budget) left = answered_tids c _ _ _ (carried_tids c q budget _ _)
performed_tids c (settles q budget) left = answered_tids c _ _ _ (carried_tids c q budget _ _)
performed_tids c (queries q other) left = plain_tids c _ _ refl
performed_tids c (collects q budget) left = answered_tids c _ _ _ (carried_tids c q budget _ _)
performed_tids c (shows q a n) left = plain_tids c _ _ refl

-- a call gives the next tid exactly if it opens one
pub step_tids : (c : Cluster) (call : Call) (left : Left) → (step c call left).1.last_tid ≡ tids_after (deed c call) c.last_tid
unfolding step deed
step_tids c call left = go c.well_made
  where
    go : (b : Bool) → (cond {A = Result} b (performed c call left) (refused WrongCondition, c)).1.last_tid ≡ tids_after (cond b (deed_of c call) nothing) c.last_tid
    go true = performed_tids c call left
    go false = refl

-- ## One call

-- the book has the items that a call opens
abbrev pub HasItems : (ℕ → List Item) → Cluster → Deed → Type 0
HasItems items c (asked is) = items (c.last_tid + 1) ≡ is
HasItems items c (wrote q ws) = Unit {0}
HasItems items c (woke q) = Unit {0}
HasItems items c nothing = Unit {0}

module _ (items : ℕ → List Item) (sizes : ℕ → ℕ) (count : ℕ) (within : (n : ℕ) → Within sizes count (items n))
    (h : Past Cell) (w : Touched) (c : Cluster) (s : Sound items sizes count h w c) where
  opens_items : (o : Option (List Item)) → HasItems items c (asked_for c o) → (is : List Item) → o ≡ SomeOf is → first_of (open_refusals c is) ≡ None → items (c.last_tid + 1) ≡ is
  opens_items None k is e z = absurd (let y : ◌≡◌ {A = ℕ} 0 1 = cc in omega arith)
  opens_items (SomeOf js) k is e z =
      let same : js ≡ is = cc in
      subst (λ (x : List Item). items (c.last_tid + 1) ≡ x) same (subst (λ (r : Option Refusal). HasItems items c (unless r (asked js))) (ap (λ (x : List Item). first_of (open_refusals c x)) same ∙ z) k)

  -- any call, of a cluster made well or not
  pub step_steps : (call : Call) (left : Left) → LeftBy c w (deed c call) left → HasItems items c (deed c call) → Step items sizes count h w c (deed c call) (step c call left).1
  unfolding step deed
  step_steps call left = go c.well_made
    where
      go : (b : Bool) → LeftBy c w (cond b (deed_of c call) nothing) left → HasItems items c (cond b (deed_of c call) nothing) → Step items sizes count h w c (cond b (deed_of c call) nothing) (cond {A = Result} b (performed c call left) (refused WrongCondition, c)).1
      go true fed k = step_performs items sizes count within h w c s call left fed (λ bs is e d z. opens_items (decode_request bs) (subst (λ (x : Call). HasItems items c (deed_of c x)) e k) is d z)
      go false fed k = step_nothing items sizes count h w c s
