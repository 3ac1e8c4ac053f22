-- Every call keeps the plain cluster sound, and what it knows.
use Rattle.std.proofs.Common.{◌≡◌, ℕ, ◌+◌, ◌<◌, Bool, true, false, cond, not, eqb, List, [], ◌∷◌, length, Some as SomeOf, None, Option, refl, arith}
use Rattle.std.proofs.lemmas.Bool.{both_ways, or_parts, not-false, ltb-true, leb-false}
use Rattle.model.specs.declared.condition.Condition.{Condition}
use Rattle.model.specs.declared.condition.Condition.TheVariants.{Up, Down, Recovering}
use Rattle.model.specs.declared.refusal.Refusal.{Refusal}
use Rattle.model.specs.Items.{Item}
use Rattle.model.specs.Cells.{Cell}
use Rattle.model.specs.Requests.{decode_request}
use Rattle.model.specs.Answers.{done}
use Rattle.model.specs.Journal.{Entry, is_empty, oldest}
use Rattle.model.specs.Node.{Left, journal_of, is_up, is_recovering, is_unresolved, unresolved_of, is_in_doubt, recovering as restarting}
use Rattle.model.specs.Cluster.{Cluster, has_node, node_at, with_node, has_coordinator, coordinator_of, all_voted, has_recovery, recovery_of, all_replied}
use Rattle.model.specs.Calls.{Call, opens, delivers, loses, decides, leaves, recovers, rules, stops, cuts, wakes, inquires, resumes, settles, queries, collects, shows, Result, first_of, answered, open_items, open_refusals, opening, performed, is_collectable, is_other, carried, wake_refusals}
use Rattle.model.specs.Handling.{collecting}
use Rattle.model.specs.Deeds.{Deed, asked, nothing, woke, unless, deed_of, asked_for, wrote_by}
use Rattle.model.specs.History.{LeftBy}
use Rattle.model.proofs.core.State.{Past}
use Rattle.model.proofs.bridge.SerialMemories.{Within}
use Rattle.model.proofs.bridge.Abstraction.{Touched}
use Rattle.model.proofs.bridge.Sound.{Sound, Step, step_nothing, step_answered, step_leaves, step_loses}
use Rattle.model.proofs.bridge.Talk.{step_decides, step_rules, step_stops}
use Rattle.model.proofs.bridge.Ask.{step_recovers, step_inquires, step_queries, step_opens}
use Rattle.model.proofs.bridge.NodeSteps.{step_cuts}
use Rattle.model.proofs.bridge.Collect.{step_collects}
use Rattle.model.proofs.bridge.Settle.{step_settles}
use Rattle.model.proofs.bridge.Resume.{step_resumes}
use Rattle.model.proofs.bridge.Wake.{step_wakes}
use Rattle.model.proofs.bridge.Deliver.{step_delivers}

-- ## Refusals

pub first_none : (t : Bool) (r : Refusal) (o : Option Refusal) → cond t (SomeOf r) o ≡ None → (t ≡ false) × (o ≡ None)
first_none true r o h = absurd (let z : ◌≡◌ {A = ℕ} 0 1 = cc in omega arith)
first_none false r o h = (refl, h)

pub up_is : (d : Condition) → is_up d ≡ true → d ≡ Up
up_is Up h = refl
up_is Down h = cc
up_is Recovering h = cc

recovering_is : (d : Condition) → is_recovering d ≡ true → d ≡ Recovering
recovering_is Up h = cc
recovering_is Down h = cc
recovering_is Recovering h = refl

module _ (items : ℕ → List Item) (sizes : ℕ → ℕ) (count : ℕ) (within : (n : ℕ) → Within sizes count (items n))
    (h : Past Cell) (w : Touched) (c : Cluster) (s : Sound items sizes count h w c) where
  abbrev Does : Deed → Cluster → Type 0
  Does d c' = Step items sizes count h w c d c'

  -- a call that leaves no deed
  unless_refused : (r : Option Refusal) (x : Result) → (r ≡ None → Does nothing x.1) → Does nothing (answered r c x).1
  unless_refused None x f = f refl
  unless_refused (SomeOf r) x f = step_nothing items sizes count h w c s

  there : (q : ℕ) → not (has_node c q) ≡ false → q < length c.nodes
  there q z = ltb-true q (length c.nodes) (not-false (has_node c q) z)

  up_at : (q : ℕ) → not (is_up (node_at c q).volatile.condition) ≡ false → (node_at c q).volatile.condition ≡ Up
  up_at q z = up_is (node_at c q).volatile.condition (not-false (is_up (node_at c q).volatile.condition) z)

  opened : (o : Option (List Item)) → ((is : List Item) → o ≡ SomeOf is → first_of (open_refusals c is) ≡ None → items (c.last_tid + 1) ≡ is) → Does (asked_for c o) (open_items c o).1
  unfolding open_items
  opened None f = step_nothing items sizes count h w c s
  opened (SomeOf is) f = step_answered items sizes count h w c s (first_of (open_refusals c is)) (asked is) (opening c is) (λ z. step_opens items sizes count within h w c s is (f is refl z))

  -- a drop, where there is an entry
  collected : (q budget : ℕ) → q < length c.nodes → (node_at c q).volatile.condition ≡ Up → is_collectable q (node_at c q) ≡ true → (es : List Entry) → (journal_of (node_at c q)).entries ≡ es → eqb (length es) 0 ≡ false
      → Does (wrote_by q budget (collecting (node_at c q))) (carried c q budget (collecting (node_at c q)) done).1
  collected q budget l u r [] e z = absurd (both_ways true z refl)
  collected q budget l u r (x ∷ es) e z = step_collects items sizes count h w c s q l u x es e r budget done

  wake_there : (q : ℕ) → first_of (wake_refusals c q) ≡ None → q < length c.nodes
  wake_there q e = there q (first_none _ _ _ e).0

  -- ## Every call

  pub step_performs : (call : Call) (left : Left) → LeftBy c w (deed_of c call) left
      → ((bs : List ℕ) (is : List Item) → call ≡ opens bs → decode_request bs ≡ SomeOf is → first_of (open_refusals c is) ≡ None → items (c.last_tid + 1) ≡ is)
      → Does (deed_of c call) (performed c call left).1
  unfolding performed
  step_performs (opens bs) left fed book = opened (decode_request bs) (λ is e z. book bs is refl e z)
  step_performs (delivers i budget) left fed book = step_answered items sizes count h w c s _ _ _ (λ z. step_delivers items sizes count within h w c s i budget (leb-false (length c.network) i (first_none _ _ _ z).0))
  step_performs (loses i) left fed book = unless_refused _ _ (λ _. step_loses items sizes count h w c s i)
  step_performs (decides tid buffer) left fed book = unless_refused _ _ (λ z.
      let a = first_none _ _ _ z in let b = first_none _ _ _ a.1 in
      step_decides items sizes count h w c s tid (not-false (has_coordinator c tid) a.0) (not-false (all_voted (coordinator_of c tid)) b.0))
  step_performs (leaves tid) left fed book = unless_refused _ _ (λ _. step_leaves items sizes count h w c s tid)
  step_performs (recovers q tid) left fed book = unless_refused _ _ (λ z.
      let a = first_none _ _ _ z in let b = first_none _ _ _ a.1 in let d = first_none _ _ _ b.1 in
      step_recovers items sizes count within h w c s q tid (there q a.0) (up_at q b.0) (not-false (is_in_doubt (node_at c q).volatile tid) d.0))
  step_performs (rules r) left fed book = unless_refused _ _ (λ z.
      let a = first_none _ _ _ z in let b = first_none _ _ _ a.1 in
      step_rules items sizes count h w c s r (not-false (has_recovery c r) a.0) (not-false (all_replied (recovery_of c r)) b.0))
  step_performs (stops r) left fed book = unless_refused _ _ (λ _. step_stops items sizes count h w c s r)
  step_performs (cuts q) left fed book = unless_refused _ _ (λ z. step_cuts items sizes count h w c s q (there q (first_none _ _ _ z).0))
  step_performs (wakes q) left fed book = woken _ refl fed
    where
      woken : (r : Option Refusal) → first_of (wake_refusals c q) ≡ r → LeftBy c w (unless r (woke q)) left → Does (unless r (woke q)) (answered r c (done, with_node c q (restarting q (node_at c q) left))).1
      woken None e f = step_wakes items sizes count within h w c s q (wake_there q e) left f
      woken (SomeOf r) e f = step_nothing items sizes count h w c s
  step_performs (inquires q tid other) left fed book = unless_refused _ _ (λ z.
      let a = first_none _ _ _ z in let b = first_none _ _ _ a.1 in let d = first_none _ _ _ b.1 in
      let u = or_parts (not (is_unresolved (node_at c q).volatile tid)) (not (is_other c q (unresolved_of (node_at c q).volatile tid).participants other)) d.0 in
      step_inquires items sizes count within h w c s q tid other (there q a.0) (not-false (is_unresolved (node_at c q).volatile tid) u.0) (not-false (is_other c q (unresolved_of (node_at c q).volatile tid).participants other) u.1))
  step_performs (resumes q budget) left fed book = step_answered items sizes count h w c s _ _ _ (λ z.
      let a = first_none _ _ _ z in let b = first_none _ _ _ a.1 in let d = first_none _ _ _ b.1 in
      step_resumes items sizes count within h w c s q (there q a.0) (recovering_is (node_at c q).volatile.condition (not-false (is_recovering (node_at c q).volatile.condition) b.0)) d.0 budget done)
  step_performs (settles q budget) left fed book = step_answered items sizes count h w c s _ _ _ (λ z.
      let a = first_none _ _ _ z in let b = first_none _ _ _ a.1 in
      step_settles items sizes count h w c s q (there q a.0) (up_at q b.0) budget done)
  step_performs (queries q other) left fed book = unless_refused _ _ (λ z.
      let a = first_none _ _ _ z in let b = first_none _ _ _ a.1 in let d = first_none _ _ _ b.1 in let e = first_none _ _ _ d.1 in
      let u = or_parts (is_empty (journal_of (node_at c q))) (not (is_other c q (oldest (journal_of (node_at c q))).participants other)) d.0 in
      step_queries items sizes count within h w c s q other (there q a.0) u.0 e.0 (not-false (is_other c q (oldest (journal_of (node_at c q))).participants other) u.1))
  step_performs (collects q budget) left fed book = step_answered items sizes count h w c s _ _ _ (λ z.
      let a = first_none _ _ _ z in let b = first_none _ _ _ a.1 in let d = first_none _ _ _ b.1 in let e = first_none _ _ _ d.1 in
      collected q budget (there q a.0) (up_at q b.0) (not-false (is_collectable q (node_at c q)) e.0) (journal_of (node_at c q)).entries refl d.0)
  step_performs (shows q a n) left fed book = unless_refused _ _ (λ _. step_nothing items sizes count h w c s)
