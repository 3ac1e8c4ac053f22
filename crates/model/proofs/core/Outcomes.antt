-- Outcomes rewritten entry by entry: noting them, making them durable and losing them are such rewritings.
use Rattle.std.proofs.Common.{◌≡◌, ℕ, Bool, true, false, cond, List, [], ◌∷◌, refl, ap, inl, inr, arith}
use Rattle.std.specs.List.{AllByRecursion as All}
use Rattle.model.proofs.core.Lists.{Some, Pairs}
use Rattle.model.proofs.core.State.{Book, Outcome, absent, present, Entry, State, entry_with_outcome, outcomes, outcome_made_durable}
use Rattle.model.proofs.core.Facts.{Known, OutcomeRight}
use Rattle.model.proofs.core.Agreement.{Durable}

-- ## Lists of entries

pub outcomes_all : (g : Entry → Outcome) (P : Entry → Type 0) (es : List Entry) → All (λ e. P (entry_with_outcome g e)) es → All P (outcomes g es)
unfolding outcomes
outcomes_all g P [] h = tt
outcomes_all g P (e ∷ es) h = (h.0, outcomes_all g P es h.1)

pub outcomes_some : (g : Entry → Outcome) (P : Entry → Type 0) (es : List Entry) → Some (λ e. P (entry_with_outcome g e)) es → Some P (outcomes g es)
unfolding outcomes
outcomes_some g P [] h = h
outcomes_some g P (e ∷ es) (inl h) = inl h
outcomes_some g P (e ∷ es) (inr h) = inr (outcomes_some g P es h)

pub outcomes_pairs : (g : Entry → Outcome) (P : Entry → Entry → Type 0) (es : List Entry) → Pairs (λ e f. P (entry_with_outcome g e) (entry_with_outcome g f)) es → Pairs P (outcomes g es)
unfolding outcomes
outcomes_pairs g P [] h = tt
outcomes_pairs g P (e ∷ es) h = (outcomes_all g (P (entry_with_outcome g e)) es h.0, outcomes_pairs g P es h.1)

pub outcomes_same : (es : List Entry) → outcomes (λ e. e.outcome) es ≡ es
unfolding outcomes
outcomes_same [] = refl
outcomes_same (e ∷ es) = ap (λ fs. e ∷ fs) (outcomes_same es)

pub outcomes_outcomes : (g h : Entry → Outcome) (es : List Entry) → outcomes h (outcomes g es) ≡ outcomes (λ e. h (entry_with_outcome g e)) es
unfolding outcomes
outcomes_outcomes g h [] = refl
outcomes_outcomes g h (e ∷ es) = ap (λ fs. entry_with_outcome (λ a. h (entry_with_outcome g a)) e ∷ fs) (outcomes_outcomes g h es)

-- ## One outcome

pub present_not_absent : (v d : Bool) → present v d ≡ absent → ⊥
present_not_absent v d e = let z : ◌≡◌ {A = ℕ} 0 1 = cc in omega arith

-- a noted outcome is absent only where none was noted and none was
pub noted_absent : (c v : Bool) (o : Outcome) → cond c (present v false) o ≡ absent → (c ≡ false) × (o ≡ absent)
noted_absent true v o h = absurd (present_not_absent v false h)
noted_absent false v o h = (refl, h)

pub noted_durable : (c v : Bool) (o : Outcome) → (c ≡ true → Durable o → ⊥) → Durable o → Durable (cond c (present v false) o)
noted_durable true v o h d = absurd (h refl d)
noted_durable false v o h d = d

pub noted_right : {V : Type 0} (B : Book V) (s : State V) (m : ℕ) (c v : Bool) (o : Outcome) → (c ≡ true → Known B s m v) → OutcomeRight B s m o → OutcomeRight B s m (cond c (present v false) o)
noted_right B s m true v o h k = h refl
noted_right B s m false v o h k = k

pub made_durable_right : {V : Type 0} (B : Book V) (s : State V) (n : ℕ) (o : Outcome) → OutcomeRight B s n o → OutcomeRight B s n (outcome_made_durable o)
made_durable_right B s n absent h = h
made_durable_right B s n (present v d) h = h

pub made_durable_stays : (o : Outcome) → Durable o → Durable (outcome_made_durable o)
made_durable_stays absent h = h
made_durable_stays (present v d) h = refl

pub made_durable_absent : (o : Outcome) → outcome_made_durable o ≡ absent → o ≡ absent
made_durable_absent absent h = refl
made_durable_absent (present v d) h = absurd (present_not_absent v true h)

pub not_absent_durable : (o : Outcome) → (o ≡ absent → ⊥) → Durable (outcome_made_durable o)
not_absent_durable absent h = absurd (h refl)
not_absent_durable (present v d) h = refl
