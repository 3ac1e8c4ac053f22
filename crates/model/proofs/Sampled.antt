-- The histories that the sample cluster makes can be: their answers are the plain cluster's, and what was left is allowed.
use Rattle.std.proofs.Common.{◌≡◌, ℕ, Bool, true, false, cond, List, [], ◌∷◌, map, Some, None, Option, refl, ap, subst, inl, inr}
use Rattle.model.specs.declared.outcome.Outcome.{Outcome}
use Rattle.model.specs.declared.party.Party.{Party}
use Rattle.model.specs.declared.party.Party.TheVariants.{Node as NodeParty, Coordinator as CoordinatorParty, Recovery as RecoveryParty}
use Rattle.model.specs.declared.refusal.Refusal.{Refusal}
use Rattle.model.specs.Items.{Item}
use Rattle.model.specs.Requests.{decode_request}
use Rattle.model.specs.Messages.{Message}
use Rattle.model.specs.Journal.{Entry}
use Rattle.model.specs.Writes.{Stores}
use Rattle.model.specs.Node.{Node, Left, journal_of, none_left}
use Rattle.model.specs.Handling.{Reaction, lost, taken, reaction, resuming, settling, collecting}
use Rattle.model.specs.Cluster.{Cluster, node_at}
use Rattle.model.specs.Making.{making}
use Rattle.model.specs.Calls.{Call, opens, delivers, loses, decides, leaves, recovers, rules, stops, cuts, wakes, inquires, resumes, settles, queries, collects, shows, step, first_of, open_refusals, place_refusals, wake_refusals, resume_refusals, settle_refusals, collect_refusals, message_at, without_message}
use Rattle.model.specs.Deeds.{Deed, asked, woke, nothing, unless, asked_for, reacted_with, received_by, deed_of, deed, wrote_by}
use Rattle.model.specs.History.{Event, Faithful, Fed, Answered, following, written_since, LeftBy, LeftOf, OutcomeLeft, OutcomesLeft}
use Rattle.model.specs.Samples.{left_by, left_of, durable_outcome, events_of, history_of}

outcome_left : (o : Option Outcome) → OutcomeLeft o (durable_outcome o)
outcome_left None = refl
outcome_left (Some o) = go o.durable refl
  where
    go : (b : Bool) → o.durable ≡ b → OutcomeLeft (Some o) (cond b (Some o.commits) None)
    go true e = inl refl
    go false e = inr (e, refl)

outcomes_left_lem : (es : List Entry) → OutcomesLeft es (map (λ (e : Entry). durable_outcome e.outcome) es)
outcomes_left_lem [] = tt
outcomes_left_lem (e ∷ es) = (outcome_left e.outcome, outcomes_left_lem es)

left_of_lem : (n : Node) (t : ℕ → Bool) → LeftOf n t (left_of n)
left_of_lem n t = record { size = refl; kept = λ k h. refl; outcomes = outcomes_left_lem (journal_of n).entries }

module _ (c : Cluster) (t : ℕ → ℕ → Bool) (l : Left) where
  left_unless : (o : Option Refusal) (d : Deed) → LeftBy c t d l → LeftBy c t (unless o d) l
  left_unless None d h = h
  left_unless (Some r) d h = tt

  left_asked : (o : Option (List Item)) → LeftBy c t (asked_for c o) l
  left_asked None = tt
  left_asked (Some is) = left_unless (first_of (open_refusals c is)) (asked is) tt

  left_reacted : (q f : ℕ) (r : Reaction) → LeftBy c t (reacted_with q f r) l
  left_reacted q f lost = tt
  left_reacted q f (taken e) = tt

  left_received : (p : Party) (b : Cluster) (m : Message) (f : ℕ) → LeftBy c t (received_by p b m f) l
  left_received (NodeParty q) b m f = left_reacted q f (reaction q (node_at b q) m)
  left_received CoordinatorParty b m f = tt
  left_received (RecoveryParty r) b m f = tt

  left_if : (b : Bool) (d : Deed) → LeftBy c t d l → LeftBy c t (cond b d nothing) l
  left_if true d h = h
  left_if false d h = tt

left_deed : (c : Cluster) (t : ℕ → ℕ → Bool) (call : Call) → LeftBy c t (deed_of c call) (left_by c call)
left_deed c t (opens bs) = left_asked c t none_left (decode_request bs)
left_deed c t (delivers i f) =
    left_unless c t none_left (first_of (place_refusals c i)) (received_by (message_at c i).receiver (without_message c i) (message_at c i) f)
    (left_received c t none_left (message_at c i).receiver (without_message c i) (message_at c i) f)
left_deed c t (loses i) = tt
left_deed c t (decides n b) = tt
left_deed c t (leaves n) = tt
left_deed c t (recovers q n) = tt
left_deed c t (rules r) = tt
left_deed c t (stops r) = tt
left_deed c t (cuts q) = tt
left_deed c t (wakes q) = left_unless c t (left_of (node_at c q)) (first_of (wake_refusals c q)) (woke q) (left_of_lem (node_at c q) (t q))
left_deed c t (inquires q n o) = tt
left_deed c t (resumes q f) = left_unless c t none_left (first_of (resume_refusals c q)) (wrote_by q f (resuming (node_at c q))) tt
left_deed c t (settles q f) = left_unless c t none_left (first_of (settle_refusals c q)) (wrote_by q f (settling (node_at c q))) tt
left_deed c t (queries q o) = tt
left_deed c t (collects q f) = left_unless c t none_left (first_of (collect_refusals c q)) (wrote_by q f (collecting (node_at c q))) tt
left_deed c t (shows q a n) = tt

left_by_lem : (c : Cluster) (t : ℕ → ℕ → Bool) (call : Call) → LeftBy c t (deed c call) (left_by c call)
unfolding deed
left_by_lem c t call = left_if c t (left_by c call) c.well_made (deed_of c call) (left_deed c t call)

-- what is faithful stays so when calls are added
pub added_faithful : (made : List Stores) (es : List Event) (c : Cluster) → c ≡ following made es → Fed made es × Answered made es
    → (calls : List Call) → Fed made (events_of c es calls) × Answered made (events_of c es calls)
unfolding events_of following
added_faithful made es c same (fed, told) [] = (fed, told)
added_faithful made es c same (fed, told) (call ∷ calls) =
    let r = step c call (left_by c call) in
    let e : Event = record { call = call; left = left_by c call; answer = r.0 } in
    added_faithful made (e ∷ es) r.1 (ap (λ b. (step b call (left_by c call)).1) same) (
      (subst (λ b. LeftBy b (written_since made es) (deed b call) (left_by c call)) same (left_by_lem c (written_since made es) call), fed),
      (ap (λ b. (step b call (left_by c call)).0) same, told),
    )
    calls

pub sample_faithful : (made : List Stores) (calls : List Call) → Faithful (history_of made calls)
unfolding following
sample_faithful made calls =
    let f = added_faithful made [] (making made) refl (tt, tt) calls in
    record { fed = f.0; answered = f.1 }
