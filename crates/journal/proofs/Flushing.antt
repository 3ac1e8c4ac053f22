-- What was flushed is not lost, and an entry that was added is there.
use Rattle.std.proofs.Common.{◌≡◌, ℕ, suc, ◌+◌, ◌<◌, Bool, true, false, eqb, ltb, List, [], ◌∷◌, ◌++◌, map, length, Some, None, Option, refl, ap, ◌∙◌, subst, ap₂, inl, inr, arith}
use Rattle.std.proofs.lemmas.List.{length-map, length-set, length_push}
use Rattle.std.proofs.lemmas.Bool.{cond-false, cond_both, lt-ltb, ne_eqb}
use Rattle.std.specs.Option.{option_map}
use Rattle.model.specs.declared.outcome.Outcome.{Outcome}
use Rattle.model.specs.Items.{Item}
use Rattle.model.specs.Lists.{place}
use Rattle.model.specs.Journal.{Journal as Log, Entry as PlainEntry, tid_of, has_entry, entry_of, is_full, is_empty, added, noted, flushed, restarted, next_entry, with_entries, with_outcome, made_durable, durably, pending, outcomes_left}
use Rattle.model.specs.History.{OutcomeLeft, OutcomesLeft}
use Rattle.model.proofs.Searching.{place_here}
use Rattle.journal.specs.Restarts.{Restarted}

-- ## After a flush nothing is lost

durable_stays :
    (before : Option Outcome) (left : Option Bool) →
    OutcomeLeft (option_map (λ (o : Outcome). durably o.commits) before) left →
    option_map durably left ≡ option_map (λ (o : Outcome). durably o.commits) before
durable_stays None left p = ap (option_map durably) p
durable_stays (Some o) left (inl e) = ap (option_map durably) e
durable_stays (Some o) left (inr p) = let z : true ≡ false = p.0 in let y : ◌≡◌ {A = ℕ} 0 1 = cc in absurd (omega arith)

flushed_stay :
    (es : List PlainEntry) (left : List (Option Bool)) →
    OutcomesLeft (map made_durable es) left → outcomes_left (map made_durable es) left ≡ map made_durable es
unfolding outcomes_left
flushed_stay [] [] p = refl
flushed_stay [] (o ∷ left) p = absurd p
flushed_stay (e ∷ es) [] p = absurd p
flushed_stay (e ∷ es) (o ∷ left) p =
    ap₂ (λ x xs. with_outcome e x ∷ xs) (durable_stays e.outcome o p.0) (flushed_stay es left p.1)

pub restart_flushed : (j flat after : Log) → flat ≡ flushed j → Restarted flat after → after ≡ flushed j
restart_flushed j flat after e r =
    let allowed = subst (λ (k : Log). OutcomesLeft k.entries r.left) e r.allowed
    in r.holds ∙ ap (λ (k : Log). restarted k r.left) e ∙ ap (with_entries j) (flushed_stay j.entries r.left allowed)

-- ## An entry that was added

added_entries :
    (j : Log) (tid ps : ℕ) (ws : List Item) →
    is_full j ≡ false → (added j tid ps ws).entries ≡ j.entries ++ next_entry j tid ps ws ∷ []
added_entries j tid ps ws room = ap (λ (k : Log). k.entries) (cond-false (is_full j) j _ room)

place_push :
    (es : List PlainEntry) (e : PlainEntry) → place tid_of e.tid (es ++ e ∷ []) < length es + 1
unfolding place
place_push [] e = let h = place_here tid_of e.tid e [] refl in omega arith
place_push (x ∷ es) e =
    let h = place_push es e
    in cond_both (eqb x.tid e.tid) 0 (suc (place tid_of e.tid (es ++ e ∷ []))) (λ k. k < suc (length es) + 1) (λ t. omega arith) (λ t. omega arith)

pub added_stands :
    (j : Log) (tid ps : ℕ) (ws : List Item) → is_full j ≡ false → has_entry (added j tid ps ws) tid ≡ true
added_stands j tid ps ws room =
    let e = next_entry j tid ps ws
    in ap (λ es. ltb (place tid_of tid es) (length es)) (added_entries j tid ps ws room) ∙
    lt-ltb _ _ (omega (arith, place_push j.entries e, length_push j.entries e))

pub added_not_empty :
    (j : Log) (tid ps : ℕ) (ws : List Item) (b : Bool) →
    is_full j ≡ false → is_empty (flushed (noted (added j tid ps ws) tid b)) ≡ false
added_not_empty j tid ps ws b room =
    let k = added j tid ps ws
    in let es = (noted k tid b).entries
    in ne_eqb _ _
    (λ z.
    omega (arith, z, length-map es made_durable, length-set k.entries (place tid_of tid k.entries) (with_outcome (entry_of k tid) (Some (pending b))), ap length (added_entries j tid ps ws room), length_push j.entries (next_entry j tid ps ws)))
