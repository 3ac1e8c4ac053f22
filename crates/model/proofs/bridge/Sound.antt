-- The invariant of the plain cluster: the core's, and its tables tied to it. What a step of the cluster keeps.
use Rattle.std.proofs.Common.{◌≡◌, ℕ, zero, suc, ◌<◌, List, [], ◌∷◌, map, length, get_or, Some as SomeOf, None, Option, sym, refl, ap, ◌∙◌, subst}
use Rattle.std.specs.List.{remove, AllByRecursion as All}
use Rattle.model.specs.declared.refusal.Refusal.{Refusal}
use Rattle.model.specs.Items.{Item}
use Rattle.model.specs.Cells.{Cell}
use Rattle.model.specs.Lists.{place}
use Rattle.model.specs.Node.{Node, no_node}
use Rattle.model.specs.Cluster.{Cluster, Coordinator, node_at, with_coordinators, coordinator_tid}
use Rattle.model.specs.Calls.{Result, answered, without_message, without_coordinator}
use Rattle.model.specs.Deeds.{Deed, nothing, touched, yes_after, unless}
use Rattle.model.proofs.core.Lists.{without}
use Rattle.model.proofs.core.State as core
use Rattle.model.proofs.core.State.{Claim, Past, State, prepares, state_with_network}
use Rattle.model.proofs.core.Facts.{Justified, Extends, extends_refl, extends_trans}
use Rattle.model.proofs.core.Agreement.{Agreement}
use Rattle.model.proofs.core.Memories.{Invariant}
use Rattle.model.proofs.core.NetworkChange.{NetworkChange, leaving}
use Rattle.model.proofs.core.Moves.{network_changed, network_extends}
use Rattle.model.proofs.bridge.ItemBook.{item_book}
use Rattle.model.proofs.bridge.SerialMemories.{logged_entry}
use Rattle.model.proofs.bridge.Abstraction.{Touched, cluster_seen, claim_of, seen_removed}
use Rattle.model.proofs.bridge.Tables.{CoordinatorFits, RecoveryFits, MessageFits, NodeFits, Tables, tables_stay, node_stays}

-- all-without for a removal of the rules
pub all_removed : {A : Type 0} (P : A → Type 0) (i : ℕ) (xs : List A) → All P xs → All P (remove xs i)
all_removed P zero [] h = tt
all_removed P (suc i) [] h = tt
all_removed P zero (x ∷ xs) h = h.1
all_removed P (suc i) (x ∷ xs) h = (h.0, all_removed P i xs h.1)

module _ (items : ℕ → List Item) (sizes : ℕ → ℕ) (count : ℕ) where
  abbrev B : core.Book Cell
  B = item_book items

  pub record Sound (h : Past Cell) (w : Touched) (c : Cluster) : Type 0 where
    pub invariant : Invariant B (cluster_seen h w c)
    pub tables : Tables items sizes count (cluster_seen h w c) c

  -- a step from one cluster to another that does this deed
  pub record Step (h : Past Cell) (w : Touched) (c : Cluster) (d : Deed) (c' : Cluster) : Type 0 where
    pub past : Past Cell
    pub sound : Sound past (λ q b. touched d q b (w q b)) c'
    pub extends : Extends B (cluster_seen h w c) (cluster_seen past (λ q b. touched d q b (w q b)) c')
    pub log : map logged_entry past.log ≡ yes_after d (map logged_entry h.log)
    pub made : past.made ≡ h.made

  module _ (h : Past Cell) (w : Touched) (c : Cluster) (s : Sound h w c) where
    abbrev S : State Cell
    S = cluster_seen h w c

    pub claims_justified : All (Justified B S) (map claim_of c.network)
    unfolding cluster_seen
    claims_justified = s.invariant.agreement.messages

    -- nothing is done
    pub step_nothing : Step h w c nothing c
    step_nothing = record { past = h; sound = s; extends = extends_refl B S; log = refl; made = refl }

    -- a refused call does nothing
    pub step_answered : (r : Option Refusal) (d : Deed) (x : Result) → (r ≡ None → Step h w c d x.1) → Step h w c (unless r d) (answered r c x).1
    step_answered None d x f = f refl
    step_answered (SomeOf r) d x f = step_nothing

    -- only coordinators or recoveries change, to others that fit
    pub step_coordinators : (ks : List Coordinator) → All (CoordinatorFits items S) ks → Step h w c nothing (with_coordinators c ks)
    unfolding cluster_seen
    step_coordinators ks f = record {
      past = h;
      extends = extends_refl B S;
      log = refl;
      made = refl;
      sound = record { invariant = s.invariant; tables = record { number = s.tables.number; nodes = s.tables.nodes; coordinators = f; recoveries = s.tables.recoveries; messages = s.tables.messages } };
    }

    pub step_leaves : (tid : ℕ) → Step h w c nothing (without_coordinator c tid)
    step_leaves tid = step_coordinators _ (all_removed _ (place coordinator_tid tid c.coordinators) c.coordinators s.tables.coordinators)

    -- ## The network changes, and no node does

    module _ (c' : Cluster) (ms : List Claim) (x : ℕ) (same_nodes : c'.nodes ≡ c.nodes)
        (seen : cluster_seen h w c' ≡ state_with_network S ms S.notes x S.past.verdicts) (g : NetworkChange B S ms S.notes x S.past.verdicts) where
      abbrev S' : State Cell
      S' = cluster_seen h w c'

      pub network_extended : Extends B S S'
      network_extended = subst (Extends B S) (sym seen) (network_extends B S s.invariant ms S.notes x S.past.verdicts g)

      pub network_sound : All (CoordinatorFits items S') c'.coordinators → All (RecoveryFits items S' c'.last_recovery) c'.recoveries
          → All (MessageFits items S' c'.last_recovery c'.recoveries) c'.network → Sound h w c'
      network_sound ks rs fs = record {
        invariant = subst (Invariant B) (sym seen) (network_changed B S s.invariant ms S.notes x S.past.verdicts g);
        tables = record {
          number = ap length same_nodes ∙ s.tables.number;
          nodes = subst (λ (ns : List Node). (q : ℕ) → q < length ns → NodeFits items S' sizes q (get_or ns q no_node)) (sym same_nodes) (λ q l. node_stays items S S' network_extended sizes q (node_at c q) (s.tables.nodes q l));
          coordinators = ks;
          recoveries = rs;
          messages = fs;
        };
      }

      pub step_network : All (CoordinatorFits items S') c'.coordinators → All (RecoveryFits items S' c'.last_recovery) c'.recoveries
          → All (MessageFits items S' c'.last_recovery c'.recoveries) c'.network → Step h w c nothing c'
      step_network ks rs fs = record { past = h; sound = network_sound ks rs fs; extends = network_extended; log = refl; made = refl }

    pub agreed : Agreement B S
    agreed = s.invariant.agreement

    pub lost_seen : (i : ℕ) → cluster_seen h w (without_message c i) ≡ state_with_network S (without i S.network) S.notes S.next S.past.verdicts
    unfolding cluster_seen
    lost_seen i = seen_removed h w c i

    -- a message leaves
    pub step_loses : (i : ℕ) → Step h w c nothing (without_message c i)
    step_loses i =
        let c' = without_message c i in
        let g = leaving B S agreed i in
        let e : cluster_seen h w c' ≡ state_with_network S (without i S.network) S.notes S.next S.past.verdicts = lost_seen i in
        let x = network_extended c' (without i S.network) S.next refl e g in
        let f = tables_stay items S (cluster_seen h w c') x sizes count c claims_justified s.tables in
        step_network c' (without i S.network) S.next refl e g f.coordinators f.recoveries (all_removed _ i c.network f.messages)

    lost_change : (i : ℕ) → NetworkChange B S (without i S.network) S.notes S.next S.past.verdicts
    lost_change i = leaving B S agreed i

    pub lost_extends : (i : ℕ) → Extends B S (cluster_seen h w (without_message c i))
    lost_extends i = network_extended (without_message c i) (without i S.network) S.next refl (lost_seen i) (lost_change i)

    pub lost_sound : (i : ℕ) → Sound h w (without_message c i)
    lost_sound i =
        let f = tables_stay items S (cluster_seen h w (without_message c i)) (lost_extends i) sizes count c claims_justified s.tables in
        network_sound (without_message c i) (without i S.network) S.next refl (lost_seen i) (lost_change i) f.coordinators f.recoveries (all_removed _ i c.network f.messages)

    -- a message has left, and then this step
    pub after_loss : (i : ℕ) (d : Deed) (c' : Cluster) → Step h w (without_message c i) d c' → Step h w c d c'
    after_loss i d c' b = record { past = b.past; sound = b.sound; extends = extends_trans B S _ _ (lost_extends i) b.extends; log = b.log; made = b.made }
