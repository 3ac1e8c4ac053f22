-- The call deliver: a message leaves the network and its receiver takes it, or it is lost.
use Rattle.std.proofs.Common.{◌≡◌, ℕ, zero, suc, ◌<◌, true, ◌⊎◌, List, [], ◌∷◌, length, get_or, sym, refl, ◌∙◌, subst, inl, inr, arith}
use Rattle.std.specs.List.{AllByRecursion as All}
use Rattle.std.proofs.lemmas.Bool.{cond_both}
use Rattle.model.specs.declared.condition.Condition.{Condition}
use Rattle.model.specs.declared.condition.Condition.TheVariants.{Up, Down, Recovering}
use Rattle.model.specs.declared.party.Party.{Party}
use Rattle.model.specs.declared.party.Party.TheVariants.{Node as NodeParty, Coordinator as CoordinatorParty, Recovery as RecoveryParty}
use Rattle.model.specs.Items.{Item}
use Rattle.model.specs.Cells.{Cell}
use Rattle.model.specs.Messages.{Body, Message, prepare, voted, finish, inquiry, reply, query, settled}
use Rattle.model.specs.Answers.{delivered}
use Rattle.model.specs.Cluster.{Cluster, Recovery, node_at, no_message, has_coordinator, has_recovery, recovery_of, recovery_number, no_recovery}
use Rattle.model.specs.Handling.{Reaction, reaction, reacting_in}
use Rattle.model.specs.Calls.{Result, reacted, delivered_to, delivering, message_at, without_message, recovery_hears}
use Rattle.model.specs.Deeds.{nothing, received_by, reacted_with}
use Rattle.model.proofs.core.Lists.{At}
use Rattle.model.proofs.core.State as core
use Rattle.model.proofs.core.State.{Claim, says_prepare, Past, State}
use Rattle.model.proofs.core.Facts.{Justified, justified_stays}
use Rattle.model.proofs.core.Justify.{message_justified}
use Rattle.model.proofs.bridge.Tests.{stands_some, found_is, found_all}
use Rattle.model.proofs.bridge.ItemBook.{item_book}
use Rattle.model.proofs.bridge.SerialMemories.{Within}
use Rattle.model.proofs.bridge.Abstraction.{Touched, cluster_seen, claimed, claim_of, claim_at, not_down_there}
use Rattle.model.proofs.bridge.Tables.{BodyFits, MessageFits, messages_stay}
use Rattle.model.proofs.bridge.Sound.{Sound, Step, agreed, step_nothing, lost_sound, lost_extends, after_loss}
use Rattle.model.proofs.bridge.Quiet.{step_without_effect, step_queried, step_acknowledged, step_settled_by_none}
use Rattle.model.proofs.bridge.Answering.{step_replied, step_inquired}
use Rattle.model.proofs.bridge.Finishing.{step_finishing}
use Rattle.model.proofs.bridge.Preparing.{step_prepared}
use Rattle.model.proofs.bridge.Hearing.{step_coordinator_hears, step_recovery_hears}

up_not_down : Up ≡ Down → ⊥
up_not_down z = let y : ◌≡◌ {A = ℕ} 0 1 = cc in omega arith

recovering_not_down : Recovering ≡ Down → ⊥
recovering_not_down z = let y : ◌≡◌ {A = ℕ} 0 1 = cc in omega arith

recovering_not_up : Recovering ≡ Up → ⊥
recovering_not_up z = let y : ◌≡◌ {A = ℕ} 0 1 = cc in omega arith

all_get_d : {A : Type 0} (P : A → Type 0) (xs : List A) (i : ℕ) (d : A) → i < length xs → All P xs → P (get_or xs i d)
all_get_d P [] i d l h = absurd (omega arith)
all_get_d P (x ∷ xs) zero d l h = h.0
all_get_d P (x ∷ xs) (suc i) d l h = all_get_d P xs i d (omega arith) h.1

-- ## At a node, but for a prepare

module _ (items : ℕ → List Item) (sizes : ℕ → ℕ) (count : ℕ) (within : (n : ℕ) → Within sizes count (items n)) (h : Past Cell) (w : Touched) (c : Cluster) (s : Sound items sizes count h w c) (q budget : ℕ) where
  abbrev B : core.Book Cell
  B = item_book items

  abbrev S : State Cell
  S = cluster_seen h w c

  abbrev Taken : Reaction → Type 0
  Taken r = Step items sizes count h w c (reacted_with q budget r) (reacted c q budget r).1

  there : (d : Condition) → (node_at c q).volatile.condition ≡ d → (d ≡ Down → ⊥) → q < length c.nodes
  there d e f = not_down_there c q (λ z. f (sym e ∙ z))

  pub step_reacts : (d : Condition) → (node_at c q).volatile.condition ≡ d → (b : Body) (tid : ℕ) (who : Party) → ((ps : ℕ) (is : List Item) → b ≡ prepare ps is → d ≡ Up → ⊥)
      → Justified B S (claimed b tid who (NodeParty q)) → BodyFits items S c.last_recovery c.recoveries b tid who (NodeParty q) → Taken (reacting_in d b q (node_at c q) tid who)
  step_reacts Up e (prepare ps is) tid who no_prepare j f = absurd (no_prepare ps is refl refl)
  step_reacts Up e (voted v bs) tid who _ j f = step_without_effect items sizes count h w c s q (there Up e up_not_down) budget (delivered true)
  step_reacts Up e (finish b) tid who _ j f = step_finishing items sizes count within h w c s q (there Up e up_not_down) e budget (delivered true) tid b j
  step_reacts Up e inquiry tid who _ j f = step_inquired items sizes count h w c s q (there Up e up_not_down) budget tid who j f
  step_reacts Up e (reply b) tid who _ j f = step_nothing items sizes count h w c s
  step_reacts Up e query tid who _ j f = step_queried items sizes count h w c s q (there Up e up_not_down) budget (delivered true) tid who j
  step_reacts Up e settled tid (NodeParty p) _ j f = step_acknowledged items sizes count h w c s q (there Up e up_not_down) budget (delivered true) tid p j
  step_reacts Up e settled tid CoordinatorParty _ j f = step_settled_by_none items sizes count h w c s q (there Up e up_not_down) budget (delivered true) tid
  step_reacts Up e settled tid (RecoveryParty r) _ j f = step_settled_by_none items sizes count h w c s q (there Up e up_not_down) budget (delivered true) tid
  step_reacts Recovering e (prepare ps is) tid who _ j f = step_nothing items sizes count h w c s
  step_reacts Recovering e (voted v bs) tid who _ j f = step_without_effect items sizes count h w c s q (there Recovering e recovering_not_down) budget (delivered true)
  step_reacts Recovering e (finish b) tid who _ j f = step_nothing items sizes count h w c s
  step_reacts Recovering e inquiry tid who _ j f = step_inquired items sizes count h w c s q (there Recovering e recovering_not_down) budget tid who j f
  step_reacts Recovering e (reply b) tid (NodeParty p) _ j f = step_replied items sizes count h w c s q (there Recovering e recovering_not_down) budget (delivered true) tid p b (λ z. recovering_not_up (sym e ∙ z)) j
  step_reacts Recovering e (reply b) tid CoordinatorParty _ j f = absurd f.1
  step_reacts Recovering e (reply b) tid (RecoveryParty r) _ j f = absurd f.1
  step_reacts Recovering e query tid who _ j f = step_queried items sizes count h w c s q (there Recovering e recovering_not_down) budget (delivered true) tid who j
  step_reacts Recovering e settled tid who _ j f = step_nothing items sizes count h w c s
  step_reacts Down e b tid who _ j f = step_nothing items sizes count h w c s

-- ## Any message

module _ (items : ℕ → List Item) (sizes : ℕ → ℕ) (count : ℕ) (within : (n : ℕ) → Within sizes count (items n)) (h : Past Cell) (w : Touched) (c : Cluster) (s : Sound items sizes count h w c)
    (i budget : ℕ) (l : i < length c.network) where
  abbrev B₁ : core.Book Cell
  B₁ = item_book items

  abbrev S₀ : State Cell
  S₀ = cluster_seen h w c

  abbrev c₁ : Cluster
  c₁ = without_message c i

  abbrev S₁ : State Cell
  S₁ = cluster_seen h w c₁

  abbrev m : Message
  m = message_at c i

  s₁ : Sound items sizes count h w c₁
  s₁ = lost_sound items sizes count h w c s i

  at : At i S₀.network (claim_of m)
  unfolding cluster_seen
  at = claim_at i c.network no_message l

  justified : Justified B₁ S₀ (claim_of m)
  justified = message_justified B₁ S₀ (agreed items sizes count h w c s) i (claim_of m) at

  fits : MessageFits items S₀ c.last_recovery c.recoveries m
  fits = all_get_d (MessageFits items S₀ c.last_recovery c.recoveries) c.network i no_message l s.tables.messages

  justified₁ : Justified B₁ S₁ (claim_of m)
  justified₁ = justified_stays B₁ S₀ S₁ (lost_extends items sizes count h w c s i) (claim_of m) justified

  fits₁ : MessageFits items S₁ c.last_recovery c.recoveries m
  fits₁ = (messages_stay items S₀ S₁ (lost_extends items sizes count h w c s i) c.last_recovery c.recoveries (m ∷ []) (justified, tt) (fits, tt)).0

  -- to a node, and no prepare that it answers
  other : (q : ℕ) → m.receiver ≡ NodeParty q → (d : Condition) → (node_at c q).volatile.condition ≡ d → (b : Body) → m.body ≡ b → ((ps : ℕ) (is : List Item) → b ≡ prepare ps is → d ≡ Up → ⊥)
      → Step items sizes count h w c (reacted_with q budget (reacting_in d b q (node_at c q) m.tid m.sender)) (reacted c₁ q budget (reacting_in d b q (node_at c q) m.tid m.sender)).1
  other q r d e b eb none = after_loss items sizes count h w c s i _ _ (step_reacts items sizes count within h w c₁ s₁ q budget d e b m.tid m.sender none
      (subst (λ p. Justified B₁ S₁ (claimed b m.tid m.sender p)) r (subst (λ x. Justified B₁ S₁ (claimed x m.tid m.sender m.receiver)) eb justified₁))
      (subst (λ p. BodyFits items S₁ c.last_recovery c.recoveries b m.tid m.sender p) r (subst (λ x. BodyFits items S₁ c.last_recovery c.recoveries x m.tid m.sender m.receiver) eb fits₁)))

  -- to a node
  node_takes : (q : ℕ) → m.receiver ≡ NodeParty q → (d : Condition) → (node_at c q).volatile.condition ≡ d → (b : Body) → m.body ≡ b
      → Step items sizes count h w c (reacted_with q budget (reacting_in d b q (node_at c q) m.tid m.sender)) (reacted c₁ q budget (reacting_in d b q (node_at c q) m.tid m.sender)).1
  node_takes q r Up e (prepare ps is) eb =
      let f : BodyFits items S₀ c.last_recovery c.recoveries (prepare ps is) m.tid m.sender (NodeParty q) = subst (λ p. BodyFits items S₀ c.last_recovery c.recoveries (prepare ps is) m.tid m.sender p) r (subst (λ b. BodyFits items S₀ c.last_recovery c.recoveries b m.tid m.sender m.receiver) eb fits) in
      step_prepared items sizes count within h w c s i m.tid q
      (subst (λ p. At i S₀.network (claimed (prepare ps is) m.tid m.sender p)) r (subst (λ b. At i S₀.network (claimed b m.tid m.sender m.receiver)) eb at))
      (not_down_there c q (λ z. up_not_down (sym e ∙ z))) e ps is f.0 f.1 budget (delivered true)
  node_takes q r Up e (voted v bs) eb = other q r Up e (voted v bs) eb (λ ps is z _. let y : ◌≡◌ {A = ℕ} 0 1 = cc in omega arith)
  node_takes q r Up e (finish b) eb = other q r Up e (finish b) eb (λ ps is z _. let y : ◌≡◌ {A = ℕ} 0 1 = cc in omega arith)
  node_takes q r Up e inquiry eb = other q r Up e inquiry eb (λ ps is z _. let y : ◌≡◌ {A = ℕ} 0 1 = cc in omega arith)
  node_takes q r Up e (reply b) eb = other q r Up e (reply b) eb (λ ps is z _. let y : ◌≡◌ {A = ℕ} 0 1 = cc in omega arith)
  node_takes q r Up e query eb = other q r Up e query eb (λ ps is z _. let y : ◌≡◌ {A = ℕ} 0 1 = cc in omega arith)
  node_takes q r Up e settled eb = other q r Up e settled eb (λ ps is z _. let y : ◌≡◌ {A = ℕ} 0 1 = cc in omega arith)
  node_takes q r Recovering e b eb = other q r Recovering e b eb (λ ps is _ z. recovering_not_up z)
  node_takes q r Down e b eb = other q r Down e b eb (λ ps is _ z. up_not_down (sym z))

  -- to a recovery
  heard_right : (r : ℕ) → has_recovery c₁ r ≡ true → m.receiver ≡ RecoveryParty r → (who : Party) → m.sender ≡ who → (b : Body) → m.body ≡ b → ((recovery_of c₁ r).tid ≡ m.tid) ⊎ (recovery_hears (recovery_of c₁ r) who b ≡ recovery_of c₁ r)
  heard_right r z e (NodeParty q) ew (prepare ps is) eb = inr refl
  heard_right r z e (NodeParty q) ew (voted v bs) eb = inr refl
  heard_right r z e (NodeParty q) ew (finish b) eb = inr refl
  heard_right r z e (NodeParty q) ew inquiry eb = inr refl
  heard_right r z e (NodeParty q) ew (reply b) eb =
      let f : BodyFits items S₀ c.last_recovery c.recoveries (reply b) m.tid m.sender (RecoveryParty r) = subst (λ p. BodyFits items S₀ c.last_recovery c.recoveries (reply b) m.tid m.sender p) e (subst (λ b. BodyFits items S₀ c.last_recovery c.recoveries b m.tid m.sender m.receiver) eb fits) in
      let x = stands_some recovery_number r c.recoveries z in
      inl (found_all recovery_number r (λ (k : Recovery). k.number ≡ r → k.tid ≡ m.tid) c.recoveries no_recovery x f.0.1 (found_is recovery_number r c.recoveries no_recovery x))
  heard_right r z e (NodeParty q) ew query eb = inr refl
  heard_right r z e (NodeParty q) ew settled eb = inr refl
  heard_right r z e CoordinatorParty ew b eb = inr refl
  heard_right r z e (RecoveryParty k) ew b eb = inr refl

  takes : (to : Party) → m.receiver ≡ to → Step items sizes count h w c (received_by to c₁ m budget) (delivered_to to c₁ m budget).1
  unfolding reaction
  takes (NodeParty q) e = node_takes q e (node_at c q).volatile.condition refl m.body refl
  takes CoordinatorParty e = cond_both (has_coordinator c₁ m.tid) _ _ (λ (r : Result). Step items sizes count h w c nothing r.1)
      (λ z. after_loss items sizes count h w c s i nothing _ (step_coordinator_hears items sizes count h w c₁ s₁ m z justified₁ fits₁))
      (λ _. after_loss items sizes count h w c s i nothing _ (step_nothing items sizes count h w c₁ s₁))
  takes (RecoveryParty r) e = cond_both (has_recovery c₁ r) _ _ (λ (x : Result). Step items sizes count h w c nothing x.1)
      (λ z. after_loss items sizes count h w c s i nothing _ (step_recovery_hears items sizes count h w c₁ s₁ r m z justified₁ (heard_right r z e m.sender refl m.body refl)))
      (λ _. after_loss items sizes count h w c s i nothing _ (step_nothing items sizes count h w c₁ s₁))

  pub step_delivers : Step items sizes count h w c (received_by m.receiver c₁ m budget) (delivering c i budget).1
  step_delivers = takes m.receiver refl
