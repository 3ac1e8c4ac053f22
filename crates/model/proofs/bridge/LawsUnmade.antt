-- A cluster that was not made well refuses every call, so each of its histories is lawful.
use Rattle.std.proofs.Common.{◌≡◌, ℕ, zero, suc, Bool, false, List, [], ◌∷◌, Some as SomeOf, None, sym, refl, ap, ◌∙◌, arith}
use Rattle.std.specs.List.{slice_get}
use Rattle.model.specs.declared.refusal.Refusal.TheVariants.{WrongCondition}
use Rattle.model.specs.Answers.{refused}
use Rattle.model.specs.Writes.{Stores}
use Rattle.model.specs.Node.{Left, none_left}
use Rattle.model.specs.Cluster.{Cluster}
use Rattle.model.specs.Making.{making, is_well_made}
use Rattle.model.specs.Calls.{Call, shows, Result, step}
use Rattle.model.specs.Deeds.{Deed, nothing, deed, Yes, yes_after}
use Rattle.model.specs.History.{Event, History, Faithful, DecidedIn, Answered, following, yes_log, plain, ago}
use Rattle.model.specs.SerialRun.{Turn, items_of, memories_made, yes_entries, turns, turn_of, serial_order, serial_turn}
use Rattle.model.specs.Laws.{FinishedAt, ShownAt, Laws}

-- ## One call

unmade_refuses : (c : Cluster) → c.well_made ≡ false → (call : Call) (left : Left) → step c call left ≡ (refused WrongCondition, c)
unfolding step
unmade_refuses c bad call left = rw bad refl

unmade_does_nothing : (c : Cluster) → c.well_made ≡ false → (call : Call) → deed c call ≡ nothing
unfolding deed
unmade_does_nothing c bad call = rw bad refl

-- ## A whole history

nth_nothing : {X : Type 0} (xs : List X) (i : ℕ) (x : X) → xs ≡ [] → slice_get xs i ≡ SomeOf x → ⊥
nth_nothing [] i x e h = let z : ◌≡◌ {A = ℕ} 0 1 = cc in omega arith
nth_nothing (y ∷ ys) i x e h = let z : ◌≡◌ {A = ℕ} 0 1 = cc in omega arith

module _ (made : List Stores) (bad : is_well_made made ≡ false) where
  making_unmade : (making made).well_made ≡ false
  unfolding making
  making_unmade = bad

  making_tids : (making made).last_tid ≡ 0
  unfolding making
  making_tids = refl

  -- it stays as it was made
  pub following_unmade : (es : List Event) → following made es ≡ making made
  unfolding following
  following_unmade [] = refl
  following_unmade (e ∷ es) =
      ap (λ (c : Cluster). (step c e.call e.left).1) (following_unmade es)
      ∙ ap (λ (r : Result). r.1) (unmade_refuses (making made) making_unmade e.call e.left)

  still_unmade : (es : List Event) → (following made es).well_made ≡ false
  still_unmade es = ap (λ (c : Cluster). c.well_made) (following_unmade es) ∙ making_unmade

  -- no node writes a yes entry
  pub yes_unmade : (es : List Event) → yes_log made es ≡ []
  unfolding yes_log
  yes_unmade [] = refl
  yes_unmade (e ∷ es) = ap (λ (d : Deed). yes_after d (yes_log made es)) (unmade_does_nothing (following made es) (still_unmade es) e.call) ∙ yes_unmade es

  -- every answer is a refusal
  pub answers_unmade : (es : List Event) → Answered made es → (i : ℕ) (e : Event) → slice_get es i ≡ SomeOf e → e.answer ≡ refused WrongCondition
  answers_unmade [] ans i e h = absurd (nth_nothing {X = Event} [] i e refl h)
  answers_unmade (x ∷ es) ans zero e h =
      let same : x ≡ e = cc in
      ap (λ (y : Event). y.answer) (sym same) ∙ ans.0 ∙ ap (λ (r : Result). r.0) (unmade_refuses (following made es) (still_unmade es) x.call x.left)
  answers_unmade (x ∷ es) ans (suc i) e h = answers_unmade es ans.1 i e h

module _ (h : History) (bad : is_well_made h.beginning ≡ false) (faithful : Faithful h) where
  none_finished : (k q tid : ℕ) (b : Bool) → FinishedAt (ago k h) q tid b → ⊥
  none_finished k q tid b f =
      let last : (plain (ago k h)).last_tid ≡ 0 = ap (λ (c : Cluster). c.last_tid) (following_unmade h.beginning bad (ago k h).events) ∙ making_tids h.beginning bad in
      omega (arith, last, f.opened.0, f.opened.1)

  none_decided : (tid : ℕ) (b : Bool) (bytes : List ℕ) → DecidedIn h tid b bytes → ⊥
  none_decided tid b bytes d =
      let e = answers_unmade h.beginning bad h.events faithful.answered d.when _ d.given in
      let z : ◌≡◌ {A = ℕ} 0 1 = cc in omega arith

  none_shown : (q a n : ℕ) (bytes : List ℕ) → ShownAt h q a n bytes → ⊥
  none_shown q a n bytes s =
      let e = ap (λ (r : Result). r.0) (unmade_refuses (plain h) (still_unmade h.beginning bad h.events) (shows q a n) none_left) in
      let z : ◌≡◌ {A = ℕ} 0 1 = cc in omega arith

  nobody_turns : serial_order h ≡ []
  unfolding turns
  nobody_turns = ap (turns (items_of h)) (yes_unmade h.beginning bad h.events)

  no_turn : (tid : ℕ) (t : Turn) → serial_turn h tid ≡ SomeOf t → ⊥
  unfolding turn_of
  no_turn tid t e =
      let none : serial_turn h tid ≡ None = ap (λ ns. turn_of (items_of h) (memories_made h) ns tid) nobody_turns in
      let z : ◌≡◌ {A = ℕ} 0 1 = cc in omega arith

  no_yes : (i : ℕ) (y : Yes) → slice_get (yes_entries h) i ≡ SomeOf y → ⊥
  no_yes i y = nth_nothing (yes_entries h) i y (yes_unmade h.beginning bad h.events)

-- every history of a cluster that was not made well obeys the laws
pub unmade_lawful : (h : History) → is_well_made h.beginning ≡ false → Faithful h → Laws h
unmade_lawful h bad faithful = record {
  finished_alike = λ k l p q tid a b x y. absurd (none_finished h bad faithful k p tid a x);
  finished_as_decided = λ k q tid a b bytes d f. absurd (none_decided h bad faithful tid a bytes d);
  decided_alike = λ tid a b bytes more d e. absurd (none_decided h bad faithful tid a bytes d);
  shows_serial = λ q a n i bytes s l w. absurd (none_shown h bad faithful q a n bytes s);
  compares_true = λ tid t e. absurd (no_turn h bad faithful tid t e);
  reads_as_given = λ tid bytes d. absurd (none_decided h bad faithful tid _ bytes d);
  yes_once = λ i j y a b. absurd (no_yes h bad faithful i y a);
}
