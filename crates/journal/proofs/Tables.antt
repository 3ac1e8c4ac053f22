-- What is kept in a table, and what the journal shows of it.
use Rattle.std.proofs.Common.{◌≡◌, ℕ, suc, ◌<◌, Bool, true, false, cond, eqb, ltb, ◌⊎◌, List, [], ◌∷◌, map, length, get_or, set, Some, None, Option, sym, refl, ap, ◌∙◌, ap₂, inl, inr, arith}
use Rattle.std.proofs.lemmas.List.{length-map, map-set, get_or-map, set_past}
use Rattle.std.proofs.lemmas.Bool.{ltb-true, ltb-false}
use Rattle.std.specs.Option.{option_map}
use Rattle.model.specs.declared.outcome.Outcome.{Outcome}
use Rattle.model.specs.Lists.{place, place_in, stands}
use Rattle.model.specs.Journal.{Entry as PlainEntry, tid_of, no_entry, with_outcome, made_durable, durably, outcomes_left}
use Rattle.model.specs.History.{OutcomeLeft, OutcomesLeft}
use Rattle.journal.specs.declared.entry.Entry.{Entry}
use Rattle.journal.specs.Entries.{stored_entry, durable_entry, durable_outcome}
use Rattle.journal.specs.Restarts.{if_durable, only_durable}

abbrev tid_in : Entry → ℕ
tid_in e = e.promise.tid

-- ## The search by tid

pub place_stored : (n : ℕ) (es : List Entry) → place tid_of n (map stored_entry es) ≡ place tid_in n es
unfolding place
place_stored n [] = refl
place_stored n (e ∷ es) = ap (λ k. cond (eqb e.promise.tid n) 0 (suc k)) (place_stored n es)

stands_stored : (n : ℕ) (es : List Entry) → stands tid_of n (map stored_entry es) ≡ stands tid_in n es
stands_stored n es = ap₂ ltb (place_stored n es) (length-map es stored_entry)

-- ## An outcome

pub noted_missing :
    (es : List Entry) (tid : ℕ) (x : PlainEntry) →
    None ≡ place_in tid_in tid es →
    (stands tid_of tid (map stored_entry es) ≡ false) ×
    (map stored_entry es ≡ set (map stored_entry es) (place tid_of tid (map stored_entry es)) x)
noted_missing es tid x e =
    let none_stands : stands tid_in tid es ≡ false = grind arith
    in let none : stands tid_of tid (map stored_entry es) ≡ false = stands_stored tid es ∙ none_stands
    in (none, sym (set_past (map stored_entry es) _ x (ltb-false _ _ none)))

pub noted_found :
    (es : List Entry) (tid i : ℕ) (e x : Entry) (o : Option Outcome) →
    Some i ≡ place_in tid_in tid es →
    e ≡ get_or es i e →
    stored_entry x ≡ with_outcome (stored_entry e) o →
    (stands tid_of tid (map stored_entry es) ≡ true) ×
    (map stored_entry (set es i x) ≡
    set (map stored_entry es) (place tid_of tid (map stored_entry es)) (with_outcome (get_or (map stored_entry es) (place tid_of tid (map stored_entry es)) no_entry) o))
noted_found es tid i e x o found here new =
    let here_stands : stands tid_in tid es ≡ true = grind arith
    in let at : i ≡ place tid_in tid es = grind arith
    in let same : i ≡ place tid_of tid (map stored_entry es) = at ∙ sym (place_stored tid es)
    in let within : i < length es = omega (arith, ltb-true _ _ here_stands, at)
    in let was : stored_entry e ≡ get_or (map stored_entry es) (place tid_of tid (map stored_entry es)) no_entry =
    ap stored_entry here ∙ sym (get_or-map stored_entry es i e no_entry within) ∙ ap (λ k. get_or (map stored_entry es) k no_entry) same
    in (
      stands_stored tid es ∙ here_stands,
      map-set stored_entry es i x ∙ ap₂ (λ k y. set (map stored_entry es) k y) same (new ∙ ap (λ y. with_outcome y o) was),
    )

-- ## A flush

durable_kept : (e : Entry) → stored_entry (durable_entry true e) ≡ made_durable (stored_entry e)
durable_kept e = go e.outcome
  where
    go :
        (o : Option Outcome) →
        with_outcome (stored_entry e) (durable_outcome true o) ≡
        with_outcome (stored_entry e) (option_map (λ (p : Outcome). durably p.commits) o)
    go None = refl
    go (Some o) = refl

pub durable_flushed : (es : List Entry) → map stored_entry (map (durable_entry true) es) ≡ map made_durable (map stored_entry es)
durable_flushed [] = refl
durable_flushed (e ∷ es) = ap₂ (λ x xs. x ∷ xs) (durable_kept e) (durable_flushed es)

-- ## A restart that loses every pending outcome

lost : (o : Option Outcome) → durable_outcome false o ≡ option_map durably (if_durable o)
lost None = refl
lost (Some o) = go o.durable
  where
    go :
        (b : Bool) →
        ◌≡◌ {A = Option Outcome} (cond b (Some (durably o.commits)) None) (option_map durably (cond b (Some o.commits) None))
    go true = refl
    go false = refl

pub durable_lost :
    (es : List Entry) →
    map stored_entry (map (durable_entry false) es) ≡ outcomes_left (map stored_entry es) (only_durable (map stored_entry es))
unfolding outcomes_left
durable_lost [] = refl
durable_lost (e ∷ es) =
    ap₂ (λ o xs. with_outcome (stored_entry e) o ∷ xs) (lost e.outcome) (durable_lost es)

may_lose : (o : Option Outcome) → OutcomeLeft o (if_durable o)
may_lose None = refl
may_lose (Some o) = go o.durable refl
  where
    go :
        (b : Bool) →
        o.durable ≡ b →
        (cond {A = Option Bool} b (Some o.commits) None ≡ Some o.commits) ⊎ ((o.durable ≡ false) × (cond {A = Option Bool} b (Some o.commits) None ≡ None))
    go true e = inl refl
    go false e = inr (e, refl)

pub durable_left : (es : List PlainEntry) → OutcomesLeft es (only_durable es)
durable_left [] = tt
durable_left (e ∷ es) = (may_lose e.outcome, durable_left es)
