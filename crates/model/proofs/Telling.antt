-- What the past keeps of a call is all that the call did to what lasts.
use Rattle.std.proofs.Common.{◌≡◌, ℕ, Bool, true, false, cond, ◌⊎◌, List, [], ◌∷◌, length, Some, None, Option, sym, refl, ap, ◌∙◌, subst, inl, inr}
use lib.ListN.{get_or-eq_default}
use Rattle.std.proofs.lemmas.List.{get_or-set_same, get_or-set_other}
use Rattle.std.proofs.lemmas.Bool.{cond_both, cases_eq, cases_Bool, eq-eqb, ne_eqb, not-false, ltb-true, ltb-false}
use Rattle.std.specs.List.{AllByRecursion as All}
use Rattle.model.specs.declared.party.Party.{Party}
use Rattle.model.specs.declared.party.Party.TheVariants.{Node as NodeParty, Coordinator as CoordinatorParty, Recovery as RecoveryParty}
use Rattle.model.specs.declared.refusal.Refusal.{Refusal}
use Rattle.model.specs.declared.refusal.Refusal.TheVariants.{WrongCondition}
use Rattle.model.specs.Items.{Item}
use Rattle.model.specs.Requests.{decode_request}
use Rattle.model.specs.Messages.{Message}
use Rattle.model.specs.Answers.{Answer, delivered, done, shown, refused, power_failed}
use Rattle.model.specs.Cells.{read_at}
use Rattle.model.specs.Journal.{oldest}
use Rattle.model.specs.Writes.{Stores, Write, fails, budgeted, applied_all}
use Rattle.model.specs.Node.{Node, cells_of, journal_of, Left, no_node, powerless, recovering as restarting}
use Rattle.model.specs.Handling.{Effect, Reaction, lost, taken, carried_out, reaction, resuming, settling, collecting}
use Rattle.model.specs.Cluster.{Cluster, has_coordinator, has_recovery, has_node, node_at, with_node, sent}
use Rattle.model.specs.Calls.{Call, opens, delivers, loses, decides, leaves, recovers, rules, stops, cuts, wakes, inquires, resumes, settles, queries, collects, shows, Result, first_of, answered, carried, open_refusals, opening, open_items, place_refusals, message_at, without_message, reacted, delivered_to, delivering, decide_refusals, deciding, leave_refusals, without_coordinator, recover_refusals, recovering_of, inquiry_to, query_to, rule_refusals, ruling_of, stop_refusals, without_recovery, cut_refusals, wake_refusals, inquire_refusals, resume_refusals, settle_refusals, query_refusals, collect_refusals, show_refusals, performed, step}
use Rattle.model.specs.Deeds.{Deed, asked, wrote, woke, nothing, unless, asked_for, wrote_by, reacted_with, received_by, deed_of, deed}
use Rattle.model.specs.Bookkeeping.{stores_after, tid_after, DeedsTellAll}

-- ## Nodes changed at one place

pub node_there : (c : Cluster) (q : ℕ) (n : Node) → has_node c q ≡ true → node_at (with_node c q n) q ≡ n
node_there c q n h = get_or-set_same c.nodes q n no_node (ltb-true q (length c.nodes) h)

pub node_elsewhere : (c : Cluster) (q p : ℕ) (n : Node) → (p ≡ q → ⊥) → node_at (with_node c q n) p ≡ node_at c p
node_elsewhere c q p n ne = get_or-set_other c.nodes q p n no_node ne

-- a fact of every node from the changed one and the others
pub node_both : (P : ℕ → Node → Type 0) (c : Cluster) (q : ℕ) (n : Node) → has_node c q ≡ true → P q n
    → ((p : ℕ) → (p ≡ q → ⊥) → P p (node_at c p)) → (p : ℕ) → P p (node_at (with_node c q n) p)
node_both P c q n h here elsewhere p = go (cases_eq p q)
  where
    go : ((p ≡ q) ⊎ (p ≡ q → ⊥)) → P p (node_at (with_node c q n) p)
    go (inl e) = subst (λ r. P r (node_at (with_node c q n) r)) (sym e) (subst (P q) (sym (node_there c q n h)) here)
    go (inr ne) = subst (P p) (sym (node_elsewhere c q p n ne)) (elsewhere p ne)

-- what is taken, or does not stand, at a place without node
pub down_elsewhere : (c : Cluster) (q : ℕ) → has_node c q ≡ false → node_at c q ≡ no_node
down_elsewhere c q h = get_or-eq_default c.nodes no_node (ltb-false q (length c.nodes) h)

-- ## Refusals

pub some_not_none : {X : Type 0} (x : X) → ◌≡◌ {A = Option X} (Some x) None → ⊥
some_not_none {X} x e = subst is_some e tt
  where
    is_some : Option X → Type 0
    is_some None = ⊥
    is_some (Some y) = Unit {0}

-- where nothing of a table is refused, none of its conditions holds
pub none_holds : (rs : List (Bool × Refusal)) → first_of rs ≡ None → All (λ r. r.0 ≡ false) rs
none_holds [] h = tt
none_holds ((true, r) ∷ rs) h = absurd (some_not_none r h)
none_holds ((false, r) ∷ rs) h = (refl, none_holds rs h)

-- ## What a result does, against a deed

abbrev Told : Cluster → Left → Deed → Result → Type 0
Told c left d r =
    ((q : ℕ) → (node_at r.1 q).stores ≡ stores_after d left q (node_at c q).stores) × (r.1.last_tid ≡ tid_after d c.last_tid)

told_unless : (c : Cluster) (left : Left) (o : Option Refusal) (d : Deed) (r : Result) → (o ≡ None → Told c left d r) → Told c left (unless o d) (answered o c r)
told_unless c left None d r h = h refl
told_unless c left (Some x) d r h = ((λ q. refl), refl)

told_nothing : (c : Cluster) (left : Left) (o : Option Refusal) (r : Result) → (o ≡ None → Told c left nothing r) → Told c left nothing (answered o c r)
told_nothing c left None r h = h refl
told_nothing c left (Some x) r h = ((λ q. refl), refl)

-- a node that carries out an effect
carried_stores : (f : ℕ) (e : Effect) (n : Node) → (carried_out f e n).stores ≡ applied_all (budgeted f e.writes) n.stores
carried_stores f e n = go (fails f)
  where
    s : Stores
    s = applied_all (budgeted f e.writes) n.stores

    go : (b : Bool) → (cond {A = Node} b (powerless s) (record { stores = s; volatile = e.volatile })).stores ≡ s
    go true = refl
    go false = refl

told_carried : (c : Cluster) (left : Left) (q f : ℕ) (e : Effect) (a : Answer) → has_node c q ≡ true → Told c left (wrote_by q f e) (carried c q f e a)
unfolding carried
told_carried c left q f e a h = go (fails f)
  where
    n : Node
    n = carried_out f e (node_at c q)

    ws : List Write
    ws = budgeted f e.writes

    stores : (p : ℕ) → (node_at (with_node c q n) p).stores ≡ stores_after (wrote q ws) left p (node_at c p).stores
    stores = node_both (λ p m. m.stores ≡ stores_after (wrote q ws) left p (node_at c p).stores) c q n h
        (rw (eq-eqb q q refl) (carried_stores f e (node_at c q)))
        (λ p ne. rw (ne_eqb q p (λ r. ne (sym r))) refl)

    go : (b : Bool) → Told c left (wrote q ws) (cond {A = Result} b (power_failed, with_node c q n) (a, sent (with_node c q n) e.sent))
    go true = (stores, refl)
    go false = (stores, refl)

-- ## Deliver

-- a place without node loses every message
reaction_down : (q : ℕ) (m : Message) → reaction q no_node m ≡ lost
unfolding reaction
reaction_down q m = refl

told_reacted : (c : Cluster) (left : Left) (q f : ℕ) (r : Reaction) → (r ≡ lost ⊎ has_node c q ≡ true) → Told c left (reacted_with q f r) (reacted c q f r)
told_reacted c left q f lost h = ((λ p. refl), refl)
told_reacted c left q f (taken e) (inr h) = told_carried c left q f e (delivered true) h
told_reacted c left q f (taken e) (inl h) = absurd (subst is_taken h tt)
  where
    is_taken : Reaction → Type 0
    is_taken lost = ⊥
    is_taken (taken x) = Unit {0}

told_delivered : (c : Cluster) (left : Left) (p : Party) (m : Message) (f : ℕ) → Told c left (received_by p c m f) (delivered_to p c m f)
told_delivered c left (NodeParty q) m f = told_reacted c left q f (reaction q (node_at c q) m) (go (cases_Bool (has_node c q)))
  where
    go : ((has_node c q ≡ true) ⊎ (has_node c q ≡ false)) → (reaction q (node_at c q) m ≡ lost) ⊎ (has_node c q ≡ true)
    go (inl h) = inr h
    go (inr h) = inl (ap (λ n. reaction q n m) (down_elsewhere c q h) ∙ reaction_down q m)
told_delivered c left CoordinatorParty m f = cond_both (has_coordinator c m.tid) _ _ (Told c left nothing) (λ h. ((λ q. refl), refl)) (λ h. ((λ q. refl), refl))
told_delivered c left (RecoveryParty r) m f = cond_both (has_recovery c r) _ _ (Told c left nothing) (λ h. ((λ q. refl), refl)) (λ h. ((λ q. refl), refl))

-- ## Open

told_opened : (c : Cluster) (left : Left) (o : Option (List Item)) → Told c left (asked_for c o) (open_items c o)
unfolding open_items
told_opened c left None = ((λ q. refl), refl)
told_opened c left (Some is) = told_unless c left (first_of (open_refusals c is)) (asked is) (opening c is) (λ h. ((λ q. refl), refl))

-- ## Wake and cut

told_woken : (c : Cluster) (q : ℕ) (left : Left) → has_node c q ≡ true → Told c left (woke q) (done, with_node c q (restarting q (node_at c q) left))
told_woken c q left h = (
  node_both (λ p m. m.stores ≡ stores_after (woke q) left p (node_at c p).stores) c q (restarting q (node_at c q) left) h
      (rw (eq-eqb q q refl) refl) (λ p ne. rw (ne_eqb q p (λ r. ne (sym r))) refl),
  refl,
)

told_cut : (c : Cluster) (left : Left) (q : ℕ) → has_node c q ≡ true → Told c left nothing (done, with_node c q (powerless (node_at c q).stores))
told_cut c left q h = (node_both (λ p m. m.stores ≡ (node_at c p).stores) c q (powerless (node_at c q).stores) h refl (λ p ne. refl), refl)

-- ## All calls

told_performed : (c : Cluster) (call : Call) (left : Left) → Told c left (deed_of c call) (performed c call left)
unfolding performed
told_performed c (opens bs) left = told_opened c left (decode_request bs)
told_performed c (delivers i f) left =
    told_unless c left (first_of (place_refusals c i)) (received_by (message_at c i).receiver (without_message c i) (message_at c i) f) (delivering c i f)
    (λ h. told_delivered (without_message c i) left (message_at c i).receiver (message_at c i) f)
told_performed c (loses i) left = told_nothing c left (first_of (place_refusals c i)) (done, without_message c i) (λ h. ((λ q. refl), refl))
told_performed c (decides tid buffer) left = told_nothing c left (first_of (decide_refusals c tid buffer)) (deciding c tid) (λ h. ((λ q. refl), refl))
told_performed c (leaves tid) left = told_nothing c left (first_of (leave_refusals c tid)) (done, without_coordinator c tid) (λ h. ((λ q. refl), refl))
told_performed c (recovers q tid) left = told_nothing c left (first_of (recover_refusals c q tid)) (recovering_of c q tid) (λ h. ((λ p. refl), refl))
told_performed c (rules r) left = told_nothing c left (first_of (rule_refusals c r)) (ruling_of c r) (λ h. ((λ q. refl), refl))
told_performed c (stops r) left = told_nothing c left (first_of (stop_refusals c r)) (done, without_recovery c r) (λ h. ((λ q. refl), refl))
told_performed c (cuts q) left =
    told_nothing c left (first_of (cut_refusals c q)) (done, with_node c q (powerless (node_at c q).stores)) (λ h. told_cut c left q (not-false (has_node c q) (none_holds (cut_refusals c q) h).0))
told_performed c (wakes q) left =
    told_unless c left (first_of (wake_refusals c q)) (woke q) (done, with_node c q (restarting q (node_at c q) left)) (λ h. told_woken c q left (not-false (has_node c q) (none_holds (wake_refusals c q) h).0))
told_performed c (inquires q tid other) left =
    told_nothing c left (first_of (inquire_refusals c q tid other)) (done, sent c (inquiry_to tid (NodeParty q) other ∷ [])) (λ h. ((λ p. refl), refl))
told_performed c (resumes q f) left =
    told_unless c left (first_of (resume_refusals c q)) (wrote_by q f (resuming (node_at c q))) (carried c q f (resuming (node_at c q)) done)
    (λ h. told_carried c left q f (resuming (node_at c q)) done (not-false (has_node c q) (none_holds (resume_refusals c q) h).0))
told_performed c (settles q f) left =
    told_unless c left (first_of (settle_refusals c q)) (wrote_by q f (settling (node_at c q))) (carried c q f (settling (node_at c q)) done)
    (λ h. told_carried c left q f (settling (node_at c q)) done (not-false (has_node c q) (none_holds (settle_refusals c q) h).0))
told_performed c (queries q other) left =
    told_nothing c left (first_of (query_refusals c q other)) (done, sent c (query_to (oldest (journal_of (node_at c q))).tid q other ∷ [])) (λ h. ((λ p. refl), refl))
told_performed c (collects q f) left =
    told_unless c left (first_of (collect_refusals c q)) (wrote_by q f (collecting (node_at c q))) (carried c q f (collecting (node_at c q)) done)
    (λ h. told_carried c left q f (collecting (node_at c q)) done (not-false (has_node c q) (none_holds (collect_refusals c q) h).0))
told_performed c (shows q a n) left = told_nothing c left (first_of (show_refusals c q a n)) (shown (read_at (cells_of (node_at c q)) a n), c) (λ h. ((λ p. refl), refl))

told_step : (c : Cluster) (call : Call) (left : Left) → Told c left (deed c call) (step c call left)
unfolding deed step
told_step c call left = go c.well_made
  where
    go : (b : Bool) → Told c left (cond b (deed_of c call) nothing) (cond {A = Result} b (performed c call left) (refused WrongCondition, c))
    go true = told_performed c call left
    go false = ((λ q. refl), refl)

pub deeds_tell : DeedsTellAll
deeds_tell c call left = let t = told_step c call left in record { stores = t.0; tids = t.1 }
