-- Laws of what decides gave, in a history of a cluster that was made well: decisions agree with all outcomes, bytes with the serial run.
use Rattle.std.proofs.Common.{◌≡◌, ℕ, zero, suc, Bool, true, false, cond, List, [], ◌∷◌, length, drop, Some as SomeOf, None, Option, sym, refl, ap, ◌∙◌, subst, arith}
use Rattle.std.specs.List.{slice_get}
use Rattle.std.proofs.lemmas.Bool.{not-false}
use Rattle.model.specs.declared.refusal.Refusal.{Refusal}
use Rattle.model.specs.declared.refusal.Refusal.TheVariants.{WrongCondition}
use Rattle.model.specs.declared.vote.Vote.{Vote}
use Rattle.model.specs.Items.{Item}
use Rattle.model.specs.Cells.{Cell}
use Rattle.model.specs.Answers.{decided, refused}
use Rattle.model.specs.Writes.{Stores}
use Rattle.model.specs.Node.{Left}
use Rattle.model.specs.Cluster.{Cluster, has_coordinator, coordinator_of, all_voted, decision, reads_of}
use Rattle.model.specs.Calls.{decides, Result, first_of, answered, decide_refusals, deciding, performed, step}
use Rattle.model.specs.Making.{is_well_made}
use Rattle.model.specs.History.{Event, History, Faithful, Answered, DecidedIn, following, ago}
use Rattle.model.specs.Ranges.{items_at}
use Rattle.model.specs.Participants.{members, participants_of}
use Rattle.model.specs.SerialRun.{turn_of, serial_turn, memories_made, items_of}
use Rattle.model.specs.Laws.{FinishedAt}
use Rattle.model.proofs.core.Lists.{Some, all_each, every_has}
use Rattle.model.proofs.core.State.{State, serial_run, has_voted_yes, saw_at}
use Rattle.model.proofs.core.Facts.{Known, Extends}
use Rattle.model.proofs.core.Laws.{known_alike, serial_fits, committed_has_turn}
use Rattle.model.proofs.bridge.ItemEffects.{items_read, joined_by_alike}
use Rattle.model.proofs.bridge.ItemBook.{item_book, item_book_lawful}
use Rattle.model.proofs.bridge.SerialMemories.{Within}
use Rattle.model.proofs.bridge.SerialTurns.{found_as, reads_by_node, turn_found}
use Rattle.model.proofs.bridge.Abstraction.{cluster_seen}
use Rattle.model.proofs.bridge.Beginning.{sizes_of}
use Rattle.model.proofs.bridge.Talk.{all_each_has, found_coordinator, decision_known, reads_given}
use Rattle.model.proofs.bridge.Performs.{first_none}
use Rattle.model.proofs.bridge.Reached.{Reached, moment, Booked, reach, fed_drop, booked_drop, knows_more}
use Rattle.model.proofs.bridge.Agreed.{finished_known, known_now}
use Rattle.model.proofs.bridge.Whole.{within_of, beginning, booked_all, reached}
use Rattle.model.proofs.bridge.Participating.{SomeMember, coordinator_participates}
use Rattle.model.proofs.bridge.LawsRead.{sized, order_same, made_same}

-- ## A decide that was accepted

-- what stood before it: a coordinator that every participant had voted to, and what it gave
record Accepted (c : Cluster) (tid : ℕ) (commits : Bool) (bytes : List ℕ) : Type 0 where
  pub there : has_coordinator c tid ≡ true
  pub all : all_voted (coordinator_of c tid) ≡ true
  pub so : decision (coordinator_of c tid) ≡ commits
  pub gave : bytes ≡ cond (decision (coordinator_of c tid)) (reads_of (coordinator_of c tid)) []

decide_accepted : (c : Cluster) (tid buffer : ℕ) (left : Left) (b : Bool) (votes : List Vote) (bytes : List ℕ)
    → decided b votes bytes ≡ (step c (decides tid buffer) left).0 → Accepted c tid b bytes
unfolding step performed
decide_accepted c tid buffer left b votes bytes = go c.well_made
  where
    tried : (r : Option Refusal) → first_of (decide_refusals c tid buffer) ≡ r → decided b votes bytes ≡ (answered r c (deciding c tid)).0 → Accepted c tid b bytes
    tried None e h =
        let x = first_none _ _ _ e in let y = first_none _ _ _ x.1 in
        record {
          there = not-false (has_coordinator c tid) x.0;
          all = not-false (all_voted (coordinator_of c tid)) y.0;
          so = cc;
          gave = cc;
        }
    tried (SomeOf r) e h = absurd (let z : ◌≡◌ {A = ℕ} 0 1 = cc in omega arith)

    go : (w : Bool) → decided b votes bytes ≡ (cond {A = Result} w (performed c (decides tid buffer) left) (refused WrongCondition, c)).0 → Accepted c tid b bytes
    go true h = tried (first_of (decide_refusals c tid buffer)) refl h
    go false h = absurd (let z : ◌≡◌ {A = ℕ} 0 1 = cc in omega arith)

-- the answer of an event is that of the cluster that stood before it
answered_at : (made : List Stores) (es : List Event) → Answered made es → (i : ℕ) (e : Event) → slice_get es i ≡ SomeOf e → e.answer ≡ (step (following made (drop (suc i) es)) e.call e.left).0
answered_at made [] a i e h = absurd (let z : ◌≡◌ {A = ℕ} 0 1 = cc in omega arith)
answered_at made (x ∷ es) a zero e h = let r : x ≡ e = cc in subst (λ (y : Event). y.answer ≡ (step (following made es) y.call y.left).0) r a.0
answered_at made (x ∷ es) a (suc i) e h = answered_at made es a.1 i e h

module _ (h : History) (good : is_well_made h.beginning ≡ true) (faithful : Faithful h) where
  abbrev made : List Stores
  made = h.beginning

  abbrev es : List Event
  es = h.events

  abbrev items : ℕ → List Item
  items = items_of h

  abbrev within : (n : ℕ) → Within (sizes_of made) (length made) (items n)
  within = within_of made good es faithful.fed faithful.answered

  abbrev start : Reached items (sizes_of made) (length made) within made []
  start = beginning made good es faithful.fed faithful.answered

  abbrev booked : Booked items (sizes_of made) (length made) within made es
  booked = booked_all made good es faithful.fed faithful.answered

  -- the moments of the history
  abbrev reached_ago : (k : ℕ) → Reached items (sizes_of made) (length made) within made (drop k es)
  reached_ago k =
      reach items (sizes_of made) (length made) within made start (drop k es)
      (fed_drop items (sizes_of made) (length made) within made start k es faithful.fed) (booked_drop items (sizes_of made) (length made) within made start k es booked)

  abbrev r : Reached items (sizes_of made) (length made) within made es
  r = reach items (sizes_of made) (length made) within made start es faithful.fed booked

  abbrev S : State Cell
  S = moment items (sizes_of made) (length made) within made es r

  accepted : (tid : ℕ) (a : Bool) (bytes : List ℕ) (d : DecidedIn h tid a bytes) → Accepted (following made (drop (suc d.when) es)) tid a bytes
  accepted tid a bytes d = decide_accepted _ tid d.buffer d.left a d.votes bytes (answered_at made es faithful.answered d.when _ d.given)

  -- ## Agreement

  decided_known : (tid : ℕ) (a : Bool) (bytes : List ℕ) → DecidedIn h tid a bytes → Known (item_book items) S tid a
  decided_known tid a bytes d =
      let x = accepted tid a bytes d in
      known_now items (sizes_of made) (length made) within made start es faithful.fed booked (suc d.when) tid a
      (subst (Known (item_book items) _ tid) x.so
      (decision_known items (sizes_of made) (length made) _ _ _ (reached_ago (suc d.when)).sound tid x.there x.all))

  finished_known_now : (k q tid : ℕ) (b : Bool) → FinishedAt (ago k h) q tid b → Known (item_book items) S tid b
  finished_known_now k q tid b f =
      known_now items (sizes_of made) (length made) within made start es faithful.fed booked k tid b
      (subst (Known (item_book items) _ tid) f.so
      (subst (λ n. Known (item_book items) _ n f.outcome.commits) f.about
      (finished_known items (sizes_of made) (length made) _ _ _ (reached_ago k).sound q f.place f.entry f.outcome f.stands f.noted)))

  pub finished_as_decided : (k q tid : ℕ) (a b : Bool) (bytes : List ℕ) → DecidedIn h tid a bytes → FinishedAt (ago k h) q tid b → a ≡ b
  finished_as_decided k q tid a b bytes d f = known_alike (item_book items) S r.sound.invariant tid a b (decided_known tid a bytes d) (finished_known_now k q tid b f)

  pub decided_alike : (tid : ℕ) (a b : Bool) (bytes more : List ℕ) → DecidedIn h tid a bytes → DecidedIn h tid b more → a ≡ b
  decided_alike tid a b bytes more d e = known_alike (item_book items) S r.sound.invariant tid a b (decided_known tid a bytes d) (decided_known tid b more e)

  -- ## Reads

  -- what its coordinator was given is what its nodes saw
  given_seen : (tid : ℕ) (bytes : List ℕ) → DecidedIn h tid true bytes → bytes ≡ reads_by_node (saw_at S tid) (items tid)
  given_seen tid bytes d =
      x.gave ∙ ap (λ b. cond b (reads_of (coordinator_of c tid)) []) x.so
      ∙ reads_given items (sizes_of made) (length made) _ _ c before.sound tid x.there x.all x.so
      ∙ joined_by_alike (λ q. items_read (saw_at S₀ tid q) (items_at q (items tid))) (λ q. items_read (saw_at S tid q) (items_at q (items tid))) (members (participants_of (items tid)))
      (all_each_has _ (members (participants_of (items tid))) (λ q m. ap (λ (f : ℕ → Cell). items_read f (items_at q (items tid))) (sym (later.saw tid q (every_has (has_voted_yes S₀ tid) (members (participants_of (items tid))) q known m)))))
    where
      x : Accepted (following made (drop (suc d.when) es)) tid true bytes
      x = accepted tid true bytes d

      c : Cluster
      c = following made (drop (suc d.when) es)

      before : Reached items (sizes_of made) (length made) within made (drop (suc d.when) es)
      before = reached_ago (suc d.when)

      S₀ : State Cell
      S₀ = moment items (sizes_of made) (length made) within made (drop (suc d.when) es) (reached_ago (suc d.when))

      later : Extends (item_book items) S₀ S
      later = knows_more items (sizes_of made) (length made) within made start (suc d.when) es faithful.fed booked

      known : Known (item_book items) S₀ tid true
      known = subst (Known (item_book items) S₀ tid) x.so (decision_known items (sizes_of made) (length made) _ _ c before.sound tid x.there x.all)

  -- a minitransaction that was decided has a participant
  decided_participates : (tid : ℕ) (a : Bool) (bytes : List ℕ) → DecidedIn h tid a bytes → SomeMember (participants_of (items tid))
  decided_participates tid a bytes d =
      let x = accepted tid a bytes d in
      let k = found_coordinator items (sizes_of made) (length made) _ _ _ (reached_ago (suc d.when)).sound tid x.there in
      subst SomeMember (k.0.participants ∙ ap (λ n. participants_of (items n)) k.1) (coordinator_participates made (within 0).few (drop (suc d.when) es) tid x.there)

  decided_has_turn : (tid : ℕ) (bytes : List ℕ) → DecidedIn h tid true bytes → Some (λ n. n ≡ tid) (serial_run (item_book items) r.past.log)
  unfolding cluster_seen
  decided_has_turn tid bytes d =
      let q = decided_participates tid true bytes d in
      let k = decided_known tid true bytes d in
      committed_has_turn (item_book items) S r.sound.invariant tid q.0 (every_has (has_voted_yes S tid) (members (participants_of (items tid))) q.0 k q.1) k

  pub reads_as_given : (tid : ℕ) (bytes : List ℕ) → DecidedIn h tid true bytes → serial_turn h tid ≡ SomeOf (record { compared = true; reads = bytes })
  unfolding cluster_seen reached
  reads_as_given tid bytes d =
      ap (λ ns. turn_of items (memories_made h) ns tid) (order_same h good faithful)
      ∙ turn_found items (sizes_of made) (length made) (memories_made h) (sized h good faithful) S r.sound.invariant (made_same h good faithful) (serial_run (item_book items) r.past.log)
      (all_each _ within (serial_run (item_book items) r.past.log)) (serial_fits (item_book items) S r.sound.invariant (item_book_lawful items)) tid (decided_has_turn tid bytes d)
      ∙ ap (λ (bs : List ℕ). SomeOf (found_as true bs)) (sym (given_seen tid bytes d))
