-- A coordinator notes a vote, a recovery a reply.
use Rattle.std.proofs.Common.{◌≡◌, ℕ, ◌<◌, ◌≤◌, Bool, true, ◌⊎◌, List, [], length, get_or, set, Some as SomeOf, None, Option, sym, refl, ap, ◌∙◌, subst, inl, inr, ⊎_elim}
use Rattle.std.specs.List.{AllByRecursion as All}
use Rattle.std.proofs.lemmas.Bool.{cases_eq, cases_lt, cond_both}
use Rattle.std.proofs.lemmas.List.{get_or-set_same, get_or-set_other, set_past, length-set}
use Rattle.model.specs.declared.party.Party.{Party}
use Rattle.model.specs.declared.party.Party.TheVariants.{Node as NodeParty, Coordinator as CoordinatorParty, Recovery as RecoveryParty}
use Rattle.model.specs.declared.vote.Vote.{Vote}
use Rattle.model.specs.Items.{Item}
use Rattle.model.specs.Cells.{Cell}
use Rattle.model.specs.Lists.{place}
use Rattle.model.specs.Ranges.{items_at}
use Rattle.model.specs.Messages.{Body, Message, prepare, voted, finish, inquiry, reply, query, settled}
use Rattle.model.specs.Cluster.{Cluster, Coordinator, Recovery, with_coordinators, with_recoveries, coordinator_tid, coordinator_of, has_coordinator, no_coordinator, has_voted, with_vote, is_yes, recovery_number, recovery_of, has_recovery, no_recovery, has_replied, with_reply}
use Rattle.model.specs.Calls.{coordinator_hears, recovery_hears}
use Rattle.model.specs.Deeds.{nothing}
use Rattle.model.proofs.core.Lists.{Some, all_map}
use Rattle.model.proofs.core.State as core
use Rattle.model.proofs.core.State.{Claim, says_vote, says_reply, Past, State, saw_at}
use Rattle.model.proofs.core.Facts.{Justified, extends_refl}
use Rattle.model.proofs.bridge.Tests.{stands_some, found_is, found_all}
use Rattle.model.proofs.bridge.ItemEffects.{items_read}
use Rattle.model.proofs.bridge.ItemBook.{item_book}
use Rattle.model.proofs.bridge.Abstraction.{Touched, cluster_seen, claimed}
use Rattle.model.proofs.bridge.Tables.{AboutRecovery, BodyFits, CoordinatorFits, RecoveryFits, MessageFits}
use Rattle.model.proofs.bridge.Sound.{Sound, Step, step_coordinators}
use Rattle.model.proofs.bridge.WriteSteps.{all_set}

-- a slot of a table that is set: the new value, or what stood there
slot : {A : Type 0} (xs : List (Option A)) (q p : ℕ) (a b : A) → get_or (set xs q (SomeOf a)) p None ≡ SomeOf b → ((p ≡ q) × (q < length xs) × (a ≡ b)) ⊎ (get_or xs p None ≡ SomeOf b)
slot xs q p a b h = go (cases_eq p q) (cases_lt q (length xs))
  where
    value : SomeOf a ≡ SomeOf b → a ≡ b
    value e = cc

    go : ((p ≡ q) ⊎ (p ≡ q → ⊥)) → ((q < length xs) ⊎ (length xs ≤ q)) → ((p ≡ q) × (q < length xs) × (a ≡ b)) ⊎ (get_or xs p None ≡ SomeOf b)
    go (inl e) (inl l) = inl (e, l, value (sym (get_or-set_same xs q (SomeOf a) None l) ∙ ap (λ r. get_or (set xs q (SomeOf a)) r None) (sym e) ∙ h))
    go (inl e) (inr l) = inr (ap (λ ys. get_or ys p None) (sym (set_past xs q (SomeOf a) l)) ∙ h)
    go (inr e) l = inr (sym (get_or-set_other xs q p (SomeOf a) None e) ∙ h)

module _ (items : ℕ → List Item) (sizes : ℕ → ℕ) (count : ℕ) (h : Past Cell) (w : Touched) (c : Cluster) (s : Sound items sizes count h w c) where
  abbrev B : core.Book Cell
  B = item_book items

  abbrev S : State Cell
  S = cluster_seen h w c

  -- ## Coordinators

  vote_fits : (k : Coordinator) → CoordinatorFits items S k → (q : ℕ) (v : Vote) (bs : List ℕ) → Justified B S (says_vote k.tid q (is_yes v))
      → (is_yes v ≡ true → bs ≡ items_read (saw_at S k.tid q) (items_at q (items k.tid))) → CoordinatorFits items S (with_vote k q v bs)
  vote_fits k f q v bs j r = cond_both (has_voted k q) _ _ (CoordinatorFits items S) (λ _. f) (λ _. record {
    participants = f.participants;
    slots = length-set k.reads q bs ∙ f.slots ∙ sym (length-set k.votes q (SomeOf v));
    votes = λ p x z. ⊎_elim (λ y. subst (λ (u : Vote). Justified B S (says_vote k.tid p (is_yes u))) y.2 (subst (λ m. Justified B S (says_vote k.tid m (is_yes v))) (sym y.0) j)) (λ y. f.votes p x y) (slot k.votes q p v x z);
    reads = λ p x z g. reads_at p x z g (cases_eq p q);
  })
    where
      reads_at : (p : ℕ) (x : Vote) → get_or (set k.votes q (SomeOf v)) p None ≡ SomeOf x → is_yes x ≡ true → ((p ≡ q) ⊎ (p ≡ q → ⊥)) → get_or (set k.reads q bs) p [] ≡ items_read (saw_at S k.tid p) (items_at p (items k.tid))
      reads_at p x z g (inr e) = get_or-set_other k.reads q p bs [] e ∙ f.reads p x (sym (get_or-set_other k.votes q p (SomeOf v) None e) ∙ z) g
      reads_at p x z g (inl e) = go (cases_lt q (length k.votes))
        where
          value : SomeOf v ≡ SomeOf x → v ≡ x
          value y = cc

          go : ((q < length k.votes) ⊎ (length k.votes ≤ q)) → get_or (set k.reads q bs) p [] ≡ items_read (saw_at S k.tid p) (items_at p (items k.tid))
          go (inl l) =
              let same : v ≡ x = value (sym (get_or-set_same k.votes q (SomeOf v) None l) ∙ ap (λ m. get_or (set k.votes q (SomeOf v)) m None) (sym e) ∙ z) in
              ap (λ m. get_or (set k.reads q bs) m []) e ∙ get_or-set_same k.reads q bs [] (subst (λ m. q < m) (sym f.slots) l) ∙ r (subst (λ (y : Vote). is_yes y ≡ true) (sym same) g)
              ∙ ap (λ m. items_read (saw_at S k.tid m) (items_at m (items k.tid))) (sym e)
          go (inr l) = ap (λ ys. get_or ys p []) (set_past k.reads q bs (subst (λ m. m ≤ q) (sym f.slots) l)) ∙ f.reads p x (ap (λ ys. get_or ys p None) (sym (set_past k.votes q (SomeOf v) l)) ∙ z) g

  hears_fits : (k : Coordinator) → CoordinatorFits items S k → (last : ℕ) (rs : List Recovery) (who to : Party) (b : Body) → Justified B S (claimed b k.tid who to) → BodyFits items S last rs b k.tid who to → CoordinatorFits items S (coordinator_hears k who b)
  hears_fits k f last rs (NodeParty q) to (prepare ps is) j m = f
  hears_fits k f last rs (NodeParty q) to (voted v bs) j m = vote_fits k f q v bs j m
  hears_fits k f last rs (NodeParty q) to (finish b) j m = f
  hears_fits k f last rs (NodeParty q) to inquiry j m = f
  hears_fits k f last rs (NodeParty q) to (reply b) j m = f
  hears_fits k f last rs (NodeParty q) to query j m = f
  hears_fits k f last rs (NodeParty q) to settled j m = f
  hears_fits k f last rs CoordinatorParty to b j m = f
  hears_fits k f last rs (RecoveryParty r) to b j m = f

  pub step_coordinator_hears : (m : Message) → has_coordinator c m.tid ≡ true → Justified B S (claimed m.body m.tid m.sender m.receiver) → MessageFits items S c.last_recovery c.recoveries m
      → Step items sizes count h w c nothing (with_coordinators c (set c.coordinators (place coordinator_tid m.tid c.coordinators) (coordinator_hears (coordinator_of c m.tid) m.sender m.body)))
  step_coordinator_hears m z j f =
      let x = stands_some coordinator_tid m.tid c.coordinators z in
      let e = found_is coordinator_tid m.tid c.coordinators no_coordinator x in
      let k = found_all coordinator_tid m.tid (CoordinatorFits items S) c.coordinators no_coordinator x s.tables.coordinators in
      step_coordinators items sizes count h w c s _ (all_set (CoordinatorFits items S) c.coordinators (place coordinator_tid m.tid c.coordinators) _ s.tables.coordinators
      (λ _. hears_fits (coordinator_of c m.tid) k c.last_recovery c.recoveries m.sender m.receiver m.body
      (subst (λ t. Justified B S (claimed m.body t m.sender m.receiver)) (sym e) j) (subst (λ t. BodyFits items S c.last_recovery c.recoveries m.body t m.sender m.receiver) (sym e) f)))

  -- ## Recoveries

  reply_fits : (last : ℕ) (k : Recovery) → RecoveryFits items S last k → (q : ℕ) (b : Bool) → Justified B S (says_reply k.tid q b) → RecoveryFits items S last (with_reply k q b)
  reply_fits last k f q b j = cond_both (has_replied k q) _ _ (RecoveryFits items S last) (λ _. f) (λ _. record {
    given = f.given;
    participants = f.participants;
    replies = λ p x z. ⊎_elim (λ y. subst (λ a. Justified B S (says_reply k.tid p a)) y.2 (subst (λ m. Justified B S (says_reply k.tid m b)) (sym y.0) j)) (λ y. f.replies p x y) (slot k.replies q p b x z);
  })

  recovery_hears_fits : (last : ℕ) (k : Recovery) → RecoveryFits items S last k → (who to : Party) (b : Body) → Justified B S (claimed b k.tid who to) → RecoveryFits items S last (recovery_hears k who b)
  recovery_hears_fits last k f (NodeParty q) to (prepare ps is) j = f
  recovery_hears_fits last k f (NodeParty q) to (voted v bs) j = f
  recovery_hears_fits last k f (NodeParty q) to (finish b) j = f
  recovery_hears_fits last k f (NodeParty q) to inquiry j = f
  recovery_hears_fits last k f (NodeParty q) to (reply b) j = reply_fits last k f q b j
  recovery_hears_fits last k f (NodeParty q) to query j = f
  recovery_hears_fits last k f (NodeParty q) to settled j = f
  recovery_hears_fits last k f CoordinatorParty to b j = f
  recovery_hears_fits last k f (RecoveryParty r) to b j = f

  -- what it hears changes neither its number nor its tid
  abbrev SameRecovery : Recovery → Recovery → Type 0
  SameRecovery k m = (m.number ≡ k.number) × (m.tid ≡ k.tid)

  reply_same : (k : Recovery) (q : ℕ) (b : Bool) → SameRecovery k (with_reply k q b)
  reply_same k q b = cond_both (has_replied k q) _ _ (SameRecovery k) (λ _. (refl, refl)) (λ _. (refl, refl))

  hears_same : (k : Recovery) (who : Party) (b : Body) → SameRecovery k (recovery_hears k who b)
  hears_same k (NodeParty q) (prepare ps is) = (refl, refl)
  hears_same k (NodeParty q) (voted v bs) = (refl, refl)
  hears_same k (NodeParty q) (finish b) = (refl, refl)
  hears_same k (NodeParty q) inquiry = (refl, refl)
  hears_same k (NodeParty q) (reply b) = reply_same k q b
  hears_same k (NodeParty q) query = (refl, refl)
  hears_same k (NodeParty q) settled = (refl, refl)
  hears_same k CoordinatorParty b = (refl, refl)
  hears_same k (RecoveryParty r) b = (refl, refl)

  about_same : (rs rs' : List Recovery) → ((r tid : ℕ) → All (λ (k : Recovery). k.number ≡ r → k.tid ≡ tid) rs → All (λ (k : Recovery). k.number ≡ r → k.tid ≡ tid) rs') → (last tid : ℕ) (who : Party) → AboutRecovery items last rs tid who → AboutRecovery items last rs' tid who
  about_same rs rs' f last tid (NodeParty q) a = tt
  about_same rs rs' f last tid CoordinatorParty a = tt
  about_same rs rs' f last tid (RecoveryParty r) a = (a.0, f r tid a.1)

  body_same : (rs rs' : List Recovery) → ((r tid : ℕ) → All (λ (k : Recovery). k.number ≡ r → k.tid ≡ tid) rs → All (λ (k : Recovery). k.number ≡ r → k.tid ≡ tid) rs') → (last : ℕ) (b : Body) (tid : ℕ) (who to : Party) → BodyFits items S last rs b tid who to → BodyFits items S last rs' b tid who to
  body_same rs rs' f last (prepare ps is) tid who to a = a
  body_same rs rs' f last (voted v bs) tid who to a = a
  body_same rs rs' f last (finish b) tid who to a = a
  body_same rs rs' f last inquiry tid who to a = about_same rs rs' f last tid who a
  body_same rs rs' f last (reply b) tid who to a = (about_same rs rs' f last tid to a.0, a.1)
  body_same rs rs' f last query tid who to a = a
  body_same rs rs' f last settled tid who to a = a

  -- the tid of a recovery, told by a message that is from or to it
  pub step_recovery_hears : (r : ℕ) (m : Message) → has_recovery c r ≡ true → Justified B S (claimed m.body m.tid m.sender m.receiver) → ((recovery_of c r).tid ≡ m.tid) ⊎ (recovery_hears (recovery_of c r) m.sender m.body ≡ recovery_of c r)
      → Step items sizes count h w c nothing (with_recoveries c (set c.recoveries (place recovery_number r c.recoveries) (recovery_hears (recovery_of c r) m.sender m.body)))
  unfolding cluster_seen
  step_recovery_hears r m z j e = record {
    past = h;
    extends = extends_refl B S;
    log = refl;
    made = refl;
    sound = record {
      invariant = s.invariant;
      tables = record {
        number = s.tables.number;
        nodes = s.tables.nodes;
        coordinators = s.tables.coordinators;
        recoveries = all_set (RecoveryFits items S c.last_recovery) c.recoveries at k' s.tables.recoveries (λ _. fits);
        messages = all_map _ _ (λ x a. body_same c.recoveries rs' kept c.last_recovery x.body x.tid x.sender x.receiver a) c.network s.tables.messages;
      };
    };
  }
    where
      at : ℕ
      at = place recovery_number r c.recoveries

      k : Recovery
      k = recovery_of c r

      k' : Recovery
      k' = recovery_hears k m.sender m.body

      rs' : List Recovery
      rs' = set c.recoveries at k'

      there : Some (λ (x : Recovery). x.number ≡ r) c.recoveries
      there = stands_some recovery_number r c.recoveries z

      old : RecoveryFits items S c.last_recovery k
      old = found_all recovery_number r (RecoveryFits items S c.last_recovery) c.recoveries no_recovery there s.tables.recoveries

      fits : RecoveryFits items S c.last_recovery k'
      fits = ⊎_elim (λ y. recovery_hears_fits c.last_recovery k old m.sender m.receiver m.body (subst (λ t. Justified B S (claimed m.body t m.sender m.receiver)) (sym y) j)) (λ y. subst (RecoveryFits items S c.last_recovery) (sym y) old) e

      kept : (n tid : ℕ) → All (λ (x : Recovery). x.number ≡ n → x.tid ≡ tid) c.recoveries → All (λ (x : Recovery). x.number ≡ n → x.tid ≡ tid) rs'
      kept n tid a = all_set _ c.recoveries at k' a (λ _ y. (hears_same k m.sender m.body).1 ∙ found_all recovery_number r (λ (x : Recovery). x.number ≡ n → x.tid ≡ tid) c.recoveries no_recovery there a (sym (hears_same k m.sender m.body).0 ∙ y))
