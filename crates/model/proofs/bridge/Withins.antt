-- Every minitransaction that is opened lies within the memories as made.
use Rattle.std.proofs.Common.{◌≡◌, ℕ, ◌+◌, ◌<◌, ◌≤◌, Bool, true, false, cond, List, length, Some as SomeOf, None, Option, refl, subst, arith}
use Rattle.std.proofs.lemmas.Bool.{not-false, ltb-true, leb-true}
use Rattle.model.specs.declared.party.Party.{Party}
use Rattle.model.specs.declared.party.Party.TheVariants.{Node as NodeParty, Coordinator as CoordinatorParty, Recovery as RecoveryParty}
use Rattle.model.specs.declared.refusal.Refusal.{Refusal}
use Rattle.model.specs.Items.{Item}
use Rattle.model.specs.ItemFormat.{span}
use Rattle.model.specs.Numbers.{most_nodes}
use Rattle.model.specs.Requests.{decode_request}
use Rattle.model.specs.Messages.{Message}
use Rattle.model.specs.Cells.{within}
use Rattle.model.specs.Ranges.{node_of, address_of}
use Rattle.model.specs.Node.{cells_of}
use Rattle.model.specs.Cluster.{Cluster, node_at, has_node}
use Rattle.model.specs.Handling.{Reaction, lost, taken, reaction}
use Rattle.model.specs.Calls.{Call, opens, delivers, loses, decides, leaves, recovers, rules, stops, cuts, wakes, inquires, resumes, settles, queries, collects, shows, first_of, open_refusals, message_at, without_message}
use Rattle.model.specs.Deeds.{Deed, asked, wrote, woke, nothing, unless, deed_of, asked_for, received_by, reacted_with, deed}
use Rattle.model.proofs.core.Lists.{all_map}
use Rattle.model.proofs.bridge.Tests.{some_none}
use Rattle.model.proofs.bridge.SerialMemories.{Within}

module _ (sizes : ℕ → ℕ) (count : ℕ) (few : count ≤ most_nodes) (c : Cluster) (number : length c.nodes ≡ count) (sized : (q : ℕ) → length (cells_of (node_at c q)) ≡ sizes q) where
  -- what a deed opens lies within
  abbrev pub Fit : Deed → Type 0
  Fit (asked is) = Within sizes count is
  Fit (wrote q ws) = Unit {0}
  Fit (woke q) = Unit {0}
  Fit nothing = Unit {0}

  first_none : (t : Bool) (r : Refusal) (o : Option Refusal) → cond t (SomeOf r) o ≡ None → (t ≡ false) × (o ≡ None)
  first_none true r o h = absurd (let z : ◌≡◌ {A = ℕ} 0 1 = cc in omega arith)
  first_none false r o h = (refl, h)

  opened_within : (is : List Item) → first_of (open_refusals c is) ≡ None → Within sizes count is
  opened_within is h =
      let a = first_none _ _ _ h in let b = first_none _ _ _ a.1 in
      record {
        few = few;
        nodes = all_map _ _ (λ i z. subst (λ m. node_of i < m) number (ltb-true (node_of i) (length c.nodes) (not-false (has_node c (node_of i)) z))) is (some_none _ is a.0);
        ranges = all_map _ _ (λ i z. subst (λ m. address_of i + span i ≤ m) (sized (node_of i)) (leb-true (address_of i + span i) (length (cells_of (node_at c (node_of i)))) (not-false (within (cells_of (node_at c (node_of i))) (address_of i) (span i)) z))) is (some_none _ is b.0);
      }

  asked_fit : (o : Option (List Item)) → Fit (asked_for c o)
  asked_fit None = tt
  asked_fit (SomeOf is) = go (first_of (open_refusals c is)) refl
    where
      go : (r : Option Refusal) → first_of (open_refusals c is) ≡ r → Fit (unless r (asked is))
      go None e = opened_within is e
      go (SomeOf r) e = tt

  unless_fit : (r : Option Refusal) (d : Deed) → Fit d → Fit (unless r d)
  unless_fit None d f = f
  unless_fit (SomeOf r) d f = tt

  reacted_fit : (q budget : ℕ) (r : Reaction) → Fit (reacted_with q budget r)
  reacted_fit q budget lost = tt
  reacted_fit q budget (taken e) = tt

  received_fit : (to : Party) (c' : Cluster) (m : Message) (budget : ℕ) → Fit (received_by to c' m budget)
  received_fit (NodeParty q) c' m budget = reacted_fit q budget (reaction q (node_at c' q) m)
  received_fit CoordinatorParty c' m budget = tt
  received_fit (RecoveryParty r) c' m budget = tt

  deed_of_fit : (call : Call) → Fit (deed_of c call)
  deed_of_fit (opens bs) = asked_fit (decode_request bs)
  deed_of_fit (delivers i budget) = unless_fit _ _ (received_fit (message_at c i).receiver (without_message c i) (message_at c i) budget)
  deed_of_fit (loses i) = tt
  deed_of_fit (decides tid buffer) = tt
  deed_of_fit (leaves tid) = tt
  deed_of_fit (recovers q tid) = tt
  deed_of_fit (rules r) = tt
  deed_of_fit (stops r) = tt
  deed_of_fit (cuts q) = tt
  deed_of_fit (wakes q) = unless_fit _ (woke q) tt
  deed_of_fit (inquires q tid other) = tt
  deed_of_fit (resumes q budget) = unless_fit _ (wrote q _) tt
  deed_of_fit (settles q budget) = unless_fit _ (wrote q _) tt
  deed_of_fit (queries q other) = tt
  deed_of_fit (collects q budget) = unless_fit _ (wrote q _) tt
  deed_of_fit (shows q a n) = tt

  pub deed_fit : (call : Call) → Fit (deed c call)
  unfolding deed
  deed_fit call = go c.well_made
    where
      go : (b : Bool) → Fit (cond b (deed_of c call) nothing)
      go true = deed_of_fit call
      go false = tt
