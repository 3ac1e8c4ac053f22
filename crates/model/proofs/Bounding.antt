-- The bounds of a cluster are kept by every call.
use Rattle.std.proofs.Common.{◌≡◌, ℕ, suc, ◌+◌, ◌<◌, ◌≤◌, Bool, true, false, cond, not, ◌&&◌, ltb, leb, List, [], ◌∷◌, ◌++◌, length, take, drop, set, Some, None, Option, refl, ◌∙◌, arith, length-append, length-drop, length-set, length-take}
use lib.ListN.{length-map}
use Rattle.std.specs.List.{remove}
use Rattle.std.proofs.lemmas.Bool.{cond_both, leb-true, leb-false, or_parts, not-false}
use Rattle.model.specs.declared.condition.Condition.{Condition}
use Rattle.model.specs.declared.condition.Condition.TheVariants.{Up, Down, Recovering}
use Rattle.model.specs.declared.party.Party.{Party}
use Rattle.model.specs.declared.party.Party.TheVariants.{Node as NodeParty, Coordinator as CoordinatorParty, Recovery as RecoveryParty}
use Rattle.model.specs.declared.refusal.Refusal.{Refusal}
use Rattle.model.specs.declared.refusal.Refusal.TheVariants.{WrongCondition}
use Rattle.model.specs.declared.vote.Vote.{Vote}
use Rattle.model.specs.declared.vote.Vote.TheVariants.{Yes, Busy, Forced, Mismatch, Full}
use Rattle.model.specs.Numbers.{most_messages, most_coordinators, most_recoveries, last_number}
use Rattle.model.specs.Items.{Item}
use Rattle.model.specs.Requests.{decode_request}
use Rattle.model.specs.Messages.{Body, Message, prepare, voted, finish, inquiry, reply, query, settled}
use Rattle.model.specs.Answers.{Answer, done, delivered, shown, refused, power_failed}
use Rattle.model.specs.Lists.{place}
use Rattle.model.specs.Cells.{read_at}
use Rattle.model.specs.Participants.{members, participants_of}
use Rattle.model.specs.Journal.{has_entry, may_vote_yes, is_forced_full, oldest}
use Rattle.model.specs.Writes.{Stores, fails}
use Rattle.model.specs.Node.{Node, Left, cells_of, journal_of, powerless, is_in_doubt, doubt_of, is_unresolved, recovering as restarting}
use Rattle.model.specs.Handling.{Effect, Reaction, lost, taken, carried_out, prepared_as, vote_on, finishing, inquired, replied, is_settled, queried, is_oldest, acknowledged, reacting_in, reaction, resuming, settling, collecting}
use Rattle.model.specs.Cluster.{Cluster, Coordinator, Recovery, new_recovery, has_room, has_coordinator, has_recovery, node_at, with_node, sent, to_each, with_coordinators, with_recoveries, coordinator_of, coordinator_tid, new_coordinator, recovery_of, recovery_number, decision, reads_of, ruling}
use Rattle.model.specs.Making.{making}
use Rattle.model.specs.Calls.{Call, opens, delivers, loses, decides, leaves, recovers, rules, stops, cuts, wakes, inquires, resumes, settles, queries, collects, shows, Result, first_of, answered, carried, open_refusals, opening, open_items, prepare_to, place_refusals, message_at, without_message, reacted, delivered_to, delivering, coordinator_hears, recovery_hears, decide_refusals, deciding, finish_to, leave_refusals, without_coordinator, recover_refusals, recovering_of, inquiry_to, query_to, rule_refusals, ruling_of, stop_refusals, without_recovery, cut_refusals, wake_refusals, inquire_refusals, resume_refusals, settle_refusals, query_refusals, collect_refusals, show_refusals, performed, step}
use Rattle.model.specs.History.{Event, following}
use Rattle.model.specs.Bounds.{Bounded, EveryHistoryIsBounded}
use Rattle.model.proofs.Telling.{none_holds}

-- ## Lengths

removed_shorter : {X : Type 0} (xs : List X) (i : ℕ) → length (remove xs i) ≤ length xs
removed_shorter xs i = omega (arith, length-append (take i xs) (drop (suc i) xs), length-take i xs, length-drop (suc i) xs)

removed_one : {X : Type 0} (xs : List X) (i : ℕ) → i < length xs → length (remove xs i) < length xs
removed_one xs i l = omega (arith, length-append (take i xs) (drop (suc i) xs), length-take i xs, length-drop (suc i) xs)

sent_length : (ms ns : List Message) → length (ms ++ ns) ≡ length ms + length ns
sent_length = length-append

each_length : (ps : ℕ) (m : ℕ → Message) → length (to_each ps m) ≡ length (members ps)
each_length ps m = length-map (members ps) m

-- ## At most one message for one

abbrev Few : Reaction → Type 0
Few lost = Unit {0}
Few (taken e) = length e.sent ≤ 1

abbrev FewSent : Effect → Type 0
FewSent e = length e.sent ≤ 1

prepared_few : (v : Vote) (q : ℕ) (n : Node) (tid ps : ℕ) (is : List Item) → FewSent (prepared_as v q n tid ps is)
prepared_few Yes q n tid ps is = omega arith
prepared_few Busy q n tid ps is = omega arith
prepared_few Forced q n tid ps is = omega arith
prepared_few Mismatch q n tid ps is = omega arith
prepared_few Full q n tid ps is = omega arith

finishing_few : (n : Node) (tid : ℕ) (b : Bool) → FewSent (finishing n tid b)
finishing_few n tid b = cond_both (is_in_doubt n.volatile tid) _ _ FewSent (λ _. omega arith) (λ _. omega arith)

inquired_few : (q : ℕ) (n : Node) (tid : ℕ) (who : Party) → Few (inquired q n tid who)
inquired_few q n tid who =
    cond_both (has_entry (journal_of n) tid) _ _ Few (λ _. omega arith)
    (λ _. cond_both (not (may_vote_yes (journal_of n) tid)) _ _ Few (λ _. omega arith)
    (λ _. cond_both (is_forced_full (journal_of n)) _ _ Few (λ _. tt) (λ _. omega arith)))

replied_few : (q : ℕ) (n : Node) (tid : ℕ) (who : Party) (b : Bool) → FewSent (replied q n tid who b)
replied_few q n tid who b = cond_both (is_unresolved n.volatile tid) _ _ FewSent (λ _. omega arith) (λ _. omega arith)

queried_few : (q : ℕ) (n : Node) (tid : ℕ) (who : Party) → FewSent (queried q n tid who)
queried_few q n tid who = cond_both (is_settled (journal_of n) tid) _ _ FewSent (λ _. omega arith) (λ _. omega arith)

acknowledged_few : (n : Node) (tid : ℕ) (who : Party) → FewSent (acknowledged n tid who)
acknowledged_few n tid who = cond_both (is_oldest (journal_of n) tid) _ _ FewSent (λ _. omega arith) (λ _. omega arith)

reacting_few : (c : Condition) (b : Body) (q : ℕ) (n : Node) (tid : ℕ) (who : Party) → Few (reacting_in c b q n tid who)
reacting_few Up (prepare ps is) q n tid who = prepared_few (vote_on n tid is) q n tid ps is
reacting_few Up (voted v bs) q n tid who = omega arith
reacting_few Up (finish b) q n tid who = finishing_few n tid b
reacting_few Up inquiry q n tid who = inquired_few q n tid who
reacting_few Up (reply b) q n tid who = tt
reacting_few Up query q n tid who = queried_few q n tid who
reacting_few Up settled q n tid who = acknowledged_few n tid who
reacting_few Recovering (prepare ps is) q n tid who = tt
reacting_few Recovering (voted v bs) q n tid who = omega arith
reacting_few Recovering (finish b) q n tid who = tt
reacting_few Recovering inquiry q n tid who = inquired_few q n tid who
reacting_few Recovering (reply b) q n tid who = replied_few q n tid who b
reacting_few Recovering query q n tid who = queried_few q n tid who
reacting_few Recovering settled q n tid who = tt
reacting_few Down b q n tid who = tt

-- a node sends at most one message for one that it takes
pub reaction_few : (q : ℕ) (n : Node) (m : Message) → Few (reaction q n m)
unfolding reaction
reaction_few q n m = reacting_few n.volatile.condition m.body q n m.tid m.sender

-- ## Calls

-- within the bounds, with so many nodes
pub record BoundedWith (n : ℕ) (d : Cluster) : Type 0 where
  pub bounded : Bounded d
  pub nodes : length d.nodes ≡ n

-- within the bounds, with as many nodes as before
abbrev pub Kept : Cluster → Cluster → Type 0
Kept c d = BoundedWith (length c.nodes) d

kept_answered : (c : Cluster) → Bounded c → (o : Option Refusal) (r : Result) → (o ≡ None → Kept c r.1) → Kept c (answered o c r).1
kept_answered c k None r h = h refl
kept_answered c k (Some x) r h = record { bounded = k; nodes = refl }

-- messages are sent into free places, the rest unaltered
kept_sent : (c : Cluster) → Bounded c → (ms : List Message) → length c.network + length ms ≤ most_messages → Kept c (sent c ms)
kept_sent c k ms l =
    record {
      bounded = record { messages = omega (arith, sent_length c.network ms, l); coordinators = k.coordinators; recoveries = k.recoveries; tids = k.tids; recovery_numbers = k.recovery_numbers };
      nodes = refl;
    }

kept_node : (c : Cluster) → Bounded c → (q : ℕ) (n : Node) → Kept c (with_node c q n)
kept_node c k q n =
    record {
      bounded = record { messages = k.messages; coordinators = k.coordinators; recoveries = k.recoveries; tids = k.tids; recovery_numbers = k.recovery_numbers };
      nodes = length-set c.nodes q n;
    }

kept_carried : (c : Cluster) → Bounded c → (q f : ℕ) (e : Effect) (a : Answer) → length c.network + length e.sent ≤ most_messages → Kept c (carried c q f e a).1
unfolding carried
kept_carried c k q f e a l = go (fails f)
  where
    d : Cluster
    d = with_node c q (carried_out f e (node_at c q))

    step_one : Kept c d
    step_one = kept_node c k q (carried_out f e (node_at c q))

    step_two : Kept d (sent d e.sent)
    step_two = kept_sent d step_one.bounded e.sent l

    go : (b : Bool) → Kept c (cond {A = Result} b (power_failed, d) (a, sent d e.sent)).1
    go true = step_one
    go false = record { bounded = step_two.bounded; nodes = step_one.nodes }

-- free places that a table of refusals has asked for
room : (c : Cluster) (n : ℕ) → not (has_room c n) ≡ false → length c.network + n ≤ most_messages
room c n h = leb-true (length c.network + n) most_messages (not-false (has_room c n) h)

kept_opening : (c : Cluster) → Bounded c → (is : List Item) → first_of (open_refusals c is) ≡ None → Kept c (opening c is).1
kept_opening c k is h =
    let hs = none_holds (open_refusals c is) h in
    let ps = participants_of is in
    let five = or_parts (not (has_room c (length (members ps)))) (leb most_coordinators (length c.coordinators)) hs.1.1.0 in
    let l = room c (length (members ps)) five.0 in
    let few = leb-false most_coordinators (length c.coordinators) five.1 in
    let tids = leb-false last_number c.last_tid hs.1.1.1.0 in
    record {
      bounded =
          record {
            messages = omega (arith, l, sent_length c.network (to_each ps (prepare_to (c.last_tid + 1) is)), each_length ps (prepare_to (c.last_tid + 1) is));
            coordinators = omega (arith, few, length-append c.coordinators (new_coordinator (c.last_tid + 1) ps ∷ []));
            recoveries = k.recoveries;
            tids = omega (arith, tids);
            recovery_numbers = k.recovery_numbers;
          };
      nodes = refl;
    }

kept_open_items : (c : Cluster) → Bounded c → (o : Option (List Item)) → Kept c (open_items c o).1
unfolding open_items
kept_open_items c k None = record { bounded = k; nodes = refl }
kept_open_items c k (Some is) = kept_answered c k (first_of (open_refusals c is)) (opening c is) (kept_opening c k is)

kept_removed : (c : Cluster) → Bounded c → (i : ℕ) → Kept c (without_message c i)
kept_removed c k i =
    record {
      bounded = record { messages = omega (arith, removed_shorter c.network i, k.messages); coordinators = k.coordinators; recoveries = k.recoveries; tids = k.tids; recovery_numbers = k.recovery_numbers };
      nodes = refl;
    }

-- the place of a message that was delivered serves the one that is sent for it
kept_reacted : (c : Cluster) → Bounded c → length c.network < most_messages → (q f : ℕ) (r : Reaction) → Few r → Kept c (reacted c q f r).1
kept_reacted c k l q f lost few = record { bounded = k; nodes = refl }
kept_reacted c k l q f (taken e) few = kept_carried c k q f e (delivered true) (omega (arith, l, few))

kept_coordinators : (c : Cluster) → Bounded c → (ks : List Coordinator) → length ks ≤ length c.coordinators → Kept c (with_coordinators c ks)
kept_coordinators c k ks l =
    record {
      bounded = record { messages = k.messages; coordinators = omega (arith, l, k.coordinators); recoveries = k.recoveries; tids = k.tids; recovery_numbers = k.recovery_numbers };
      nodes = refl;
    }

kept_recoveries : (c : Cluster) → Bounded c → (rs : List Recovery) → length rs ≤ length c.recoveries → Kept c (with_recoveries c rs)
kept_recoveries c k rs l =
    record {
      bounded = record { messages = k.messages; coordinators = k.coordinators; recoveries = omega (arith, l, k.recoveries); tids = k.tids; recovery_numbers = k.recovery_numbers };
      nodes = refl;
    }

kept_delivered : (c : Cluster) → Bounded c → length c.network < most_messages → (p : Party) (m : Message) (f : ℕ) → Kept c (delivered_to p c m f).1
kept_delivered c k l (NodeParty q) m f = kept_reacted c k l q f (reaction q (node_at c q) m) (reaction_few q (node_at c q) m)
kept_delivered c k l CoordinatorParty m f =
    let i = place coordinator_tid m.tid c.coordinators in
    let x = coordinator_hears (coordinator_of c m.tid) m.sender m.body in
    cond_both (has_coordinator c m.tid) _ _ (λ (r : Result). Kept c r.1)
    (λ _. kept_coordinators c k (set c.coordinators i x) (omega (arith, length-set c.coordinators i x)))
    (λ _. record { bounded = k; nodes = refl })
kept_delivered c k l (RecoveryParty r) m f =
    let i = place recovery_number r c.recoveries in
    let x = recovery_hears (recovery_of c r) m.sender m.body in
    cond_both (has_recovery c r) _ _ (λ (d : Result). Kept c d.1)
    (λ _. kept_recoveries c k (set c.recoveries i x) (omega (arith, length-set c.recoveries i x)))
    (λ _. record { bounded = k; nodes = refl })

kept_delivering : (c : Cluster) → Bounded c → (i f : ℕ) → first_of (place_refusals c i) ≡ None → Kept c (delivering c i f).1
kept_delivering c k i f h =
    let l = leb-false (length c.network) i (none_holds (place_refusals c i) h).0 in
    kept_delivered (without_message c i) (kept_removed c k i).bounded (omega (arith, removed_one c.network i l, k.messages)) (message_at c i).receiver (message_at c i) f

kept_without_coordinator : (c : Cluster) → Bounded c → (tid : ℕ) → Kept c (without_coordinator c tid)
kept_without_coordinator c k tid =
    kept_coordinators c k (remove c.coordinators (place coordinator_tid tid c.coordinators)) (removed_shorter c.coordinators (place coordinator_tid tid c.coordinators))

kept_without_recovery : (c : Cluster) → Bounded c → (r : ℕ) → Kept c (without_recovery c r)
kept_without_recovery c k r =
    kept_recoveries c k (remove c.recoveries (place recovery_number r c.recoveries)) (removed_shorter c.recoveries (place recovery_number r c.recoveries))

kept_deciding : (c : Cluster) → Bounded c → (tid buffer : ℕ) → first_of (decide_refusals c tid buffer) ≡ None → Kept c (deciding c tid).1
kept_deciding c k tid buffer h =
    let x = coordinator_of c tid in
    let five = or_parts (not (has_room c (length (members x.participants)))) (decision x && ltb buffer (length (reads_of x))) (none_holds (decide_refusals c tid buffer) h).1.1.0 in
    let l = room c (length (members x.participants)) five.0 in
    kept_sent (without_coordinator c tid) (kept_without_coordinator c k tid).bounded (to_each x.participants (finish_to tid CoordinatorParty (decision x)))
    (omega (arith, l, each_length x.participants (finish_to tid CoordinatorParty (decision x))))

kept_recovering : (c : Cluster) → Bounded c → (q tid : ℕ) → first_of (recover_refusals c q tid) ≡ None → Kept c (recovering_of c q tid).1
kept_recovering c k q tid h =
    let hs = none_holds (recover_refusals c q tid) h in
    let ps = (doubt_of (node_at c q).volatile tid).participants in
    let number = c.last_recovery + 1 in
    let five = or_parts (not (has_room c (length (members ps)))) (leb most_recoveries (length c.recoveries)) hs.1.1.1.0 in
    let l = room c (length (members ps)) five.0 in
    let few = leb-false most_recoveries (length c.recoveries) five.1 in
    let last = leb-false last_number c.last_recovery hs.1.1.1.1.0 in
    record {
      bounded =
          record {
            messages = omega (arith, l, sent_length c.network (to_each ps (inquiry_to tid (RecoveryParty number))), each_length ps (inquiry_to tid (RecoveryParty number)));
            coordinators = k.coordinators;
            recoveries = omega (arith, few, length-append c.recoveries (new_recovery number tid ps ∷ []));
            tids = k.tids;
            recovery_numbers = omega (arith, last);
          };
      nodes = refl;
    }

kept_ruling : (c : Cluster) → Bounded c → (r : ℕ) → first_of (rule_refusals c r) ≡ None → Kept c (ruling_of c r).1
kept_ruling c k r h =
    let x = recovery_of c r in
    let l = room c (length (members x.participants)) (none_holds (rule_refusals c r) h).1.1.0 in
    kept_sent (without_recovery c r) (kept_without_recovery c k r).bounded (to_each x.participants (finish_to x.tid (RecoveryParty r) (ruling x)))
    (omega (arith, l, each_length x.participants (finish_to x.tid (RecoveryParty r) (ruling x))))

kept_one : (c : Cluster) → Bounded c → (m : Message) → not (has_room c 1) ≡ false → Kept c (sent c (m ∷ []))
kept_one c k m h = kept_sent c k (m ∷ []) (omega (arith, room c 1 h))

kept_silently : (c : Cluster) → Bounded c → (q f : ℕ) (e : Effect) → length e.sent ≡ 0 → Kept c (carried c q f e done).1
kept_silently c k q f e h = kept_carried c k q f e done (omega (arith, h, k.messages))

kept_performed : (c : Cluster) → Bounded c → (call : Call) (left : Left) → Kept c (performed c call left).1
unfolding performed
kept_performed c k (opens bs) left = kept_open_items c k (decode_request bs)
kept_performed c k (delivers i f) left = kept_answered c k (first_of (place_refusals c i)) (delivering c i f) (kept_delivering c k i f)
kept_performed c k (loses i) left = kept_answered c k (first_of (place_refusals c i)) (done, without_message c i) (λ _. kept_removed c k i)
kept_performed c k (decides tid buffer) left = kept_answered c k (first_of (decide_refusals c tid buffer)) (deciding c tid) (kept_deciding c k tid buffer)
kept_performed c k (leaves tid) left = kept_answered c k (first_of (leave_refusals c tid)) (done, without_coordinator c tid) (λ _. kept_without_coordinator c k tid)
kept_performed c k (recovers q tid) left = kept_answered c k (first_of (recover_refusals c q tid)) (recovering_of c q tid) (kept_recovering c k q tid)
kept_performed c k (rules r) left = kept_answered c k (first_of (rule_refusals c r)) (ruling_of c r) (kept_ruling c k r)
kept_performed c k (stops r) left = kept_answered c k (first_of (stop_refusals c r)) (done, without_recovery c r) (λ _. kept_without_recovery c k r)
kept_performed c k (cuts q) left =
    kept_answered c k (first_of (cut_refusals c q)) (done, with_node c q (powerless (node_at c q).stores)) (λ _. kept_node c k q (powerless (node_at c q).stores))
kept_performed c k (wakes q) left =
    kept_answered c k (first_of (wake_refusals c q)) (done, with_node c q (restarting q (node_at c q) left)) (λ _. kept_node c k q (restarting q (node_at c q) left))
kept_performed c k (inquires q tid other) left =
    kept_answered c k (first_of (inquire_refusals c q tid other)) (done, sent c (inquiry_to tid (NodeParty q) other ∷ []))
    (λ h. kept_one c k (inquiry_to tid (NodeParty q) other) (none_holds (inquire_refusals c q tid other) h).1.1.1.0)
kept_performed c k (resumes q f) left =
    kept_answered c k (first_of (resume_refusals c q)) (carried c q f (resuming (node_at c q)) done) (λ _. kept_silently c k q f (resuming (node_at c q)) refl)
kept_performed c k (settles q f) left =
    kept_answered c k (first_of (settle_refusals c q)) (carried c q f (settling (node_at c q)) done) (λ _. kept_silently c k q f (settling (node_at c q)) refl)
kept_performed c k (queries q other) left =
    kept_answered c k (first_of (query_refusals c q other)) (done, sent c (query_to (oldest (journal_of (node_at c q))).tid q other ∷ []))
    (λ h. kept_one c k (query_to (oldest (journal_of (node_at c q))).tid q other) (none_holds (query_refusals c q other) h).1.1.1.1.0)
kept_performed c k (collects q f) left =
    kept_answered c k (first_of (collect_refusals c q)) (carried c q f (collecting (node_at c q)) done) (λ _. kept_silently c k q f (collecting (node_at c q)) refl)
kept_performed c k (shows q a n) left =
    kept_answered c k (first_of (show_refusals c q a n)) (shown (read_at (cells_of (node_at c q)) a n), c) (λ _. record { bounded = k; nodes = refl })

pub kept_step : (c : Cluster) → Bounded c → (call : Call) (left : Left) → Kept c (step c call left).1
unfolding step
kept_step c k call left = go c.well_made
  where
    go : (b : Bool) → Kept c (cond {A = Result} b (performed c call left) (refused WrongCondition, c)).1
    go true = kept_performed c k call left
    go false = record { bounded = k; nodes = refl }

-- ## Histories

pub kept_following : (made : List Stores) (es : List Event) → Bounded (following made es) × (length (following made es).nodes ≡ length made)
unfolding following making
kept_following made [] = (
  record { messages = omega arith; coordinators = omega arith; recoveries = omega arith; tids = omega arith; recovery_numbers = omega arith },
  length-map made _,
)
kept_following made (e ∷ es) =
    let before = kept_following made es in
    let now = kept_step (following made es) before.0 e.call e.left in
    (now.bounded, now.nodes ∙ before.1)

pub every_history_bounded : EveryHistoryIsBounded
every_history_bounded h = kept_following h.beginning h.events
