-- Replaying a journal on one byte.
use Rattle.std.proofs.Common.{◌≡◌, ℕ, ◌<◌, ◌≤◌, Bool, true, false, cond, ◌&&◌, ltb, ◌⊎◌, List, [], ◌∷◌, ◌++◌, sym, refl, ap, ◌∙◌, inl, inr, arith}
use Rattle.std.specs.List.{AllByRecursion as All}
use Rattle.std.proofs.lemmas.Bool.{cases_Bool, cases_lt, lt-ltb, le-ltb}
use Rattle.model.proofs.core.Lists.{Some, Pairs, all_map, not_so}
use Rattle.model.proofs.core.State.{Book, Effect, keep, put, applied, puts, effect, Conflict, Outcome, absent, Entry, Yes, committed, replay, outcomes}

pub applied_keep : {V : Type 0} (f : Effect V) → puts f ≡ false → (x : V) → applied f x ≡ x
applied_keep keep h x = refl
applied_keep (put v) h x = cc

pub applied_put : {V : Type 0} (f : Effect V) → puts f ≡ true → (x y : V) → applied f x ≡ applied f y
applied_put keep h x y = cc
applied_put (put v) h x y = refl

module _ {V : Type 0} (B : Book V) (q p b : ℕ) where
  -- one entry's turn
  abbrev pub turn : List (Yes V) → Entry → V → V
  turn L e x = cond (ltb p e.number && committed B L e.tid) (applied (effect B e.tid q b) x) x

  -- an entry that counts, and writes the byte
  abbrev pub Counts : List (Yes V) → Entry → Type 0
  Counts L e = (p < e.number) × (committed B L e.tid ≡ true) × (puts (effect B e.tid q b) ≡ true)

  pub replay_push : (L : List (Yes V)) (es : List Entry) (e : Entry) (x : V) → replay B L q p b (es ++ e ∷ []) x ≡ turn L e (replay B L q p b es x)
  unfolding replay
  replay_push L [] e x = refl
  replay_push L (y ∷ ys) e x = replay_push L ys e (turn L y x)

  -- outcomes do not matter to it
  pub replay_outcomes : (L : List (Yes V)) (g : Entry → Outcome) (es : List Entry) (x : V) → replay B L q p b (outcomes g es) x ≡ replay B L q p b es x
  unfolding outcomes replay
  replay_outcomes L g [] x = refl
  replay_outcomes L g (e ∷ es) x = replay_outcomes L g es (turn L e x)

  -- the same entries count
  pub replay_same : (L M : List (Yes V)) (es : List Entry) → All (λ e. committed B M e.tid ≡ committed B L e.tid) es → (x : V) → replay B M q p b es x ≡ replay B L q p b es x
  unfolding replay
  replay_same L M [] h x = refl
  replay_same L M (e ∷ es) h x = rw h.0 (replay_same L M es h.1 (turn L e x))

  turn_keep : (L : List (Yes V)) (e : Entry) → puts (effect B e.tid q b) ≡ false → (x : V) → turn L e x ≡ x
  turn_keep L e h x = go (ltb p e.number && committed B L e.tid)
    where
      go : (c : Bool) → cond c (applied (effect B e.tid q b) x) x ≡ x
      go true = applied_keep (effect B e.tid q b) h x
      go false = refl

  -- no entry writes the byte
  pub replay_keep : (L : List (Yes V)) (es : List Entry) → All (λ e. puts (effect B e.tid q b) ≡ false) es → (x : V) → replay B L q p b es x ≡ x
  unfolding replay
  replay_keep L [] h x = refl
  replay_keep L (e ∷ es) h x = replay_keep L es h.1 (turn L e x) ∙ turn_keep L e h.0 x

  turn_counts : (L : List (Yes V)) (e : Entry) → Counts L e → (x y : V) → turn L e x ≡ turn L e y
  turn_counts L e w x y = rw (lt-ltb p e.number w.0, w.1) (applied_put (effect B e.tid q b) w.2 x y)

  -- where some entry counts, what stood there before does not matter
  pub replay_counts : (L : List (Yes V)) (es : List Entry) → Some (Counts L) es → (x y : V) → replay B L q p b es x ≡ replay B L q p b es y
  unfolding replay
  replay_counts L [] h x y = absurd h
  replay_counts L (e ∷ es) (inl h) x y = ap (replay B L q p b es) (turn_counts L e h x y)
  replay_counts L (e ∷ es) (inr h) x y = replay_counts L es h (turn L e x) (turn L e y)

  -- a replay leaves the byte, or some entry counts
  pub replay_leaves : (L : List (Yes V)) (es : List Entry) (x : V) → (replay B L q p b es x ≡ x) ⊎ Some (Counts L) es
  unfolding replay
  replay_leaves L [] x = inl refl
  replay_leaves L (e ∷ es) x = go (cases_lt p e.number) (cases_Bool (committed B L e.tid)) (cases_Bool (puts (effect B e.tid q b))) (replay_leaves L es x)
    where
      still : turn L e x ≡ x → (replay B L q p b es x ≡ x) ⊎ Some (Counts L) es → (replay B L q p b es (turn L e x) ≡ x) ⊎ Some (Counts L) (e ∷ es)
      still h (inl r) = inl (rw h r)
      still h (inr r) = inr (inr r)

      go : ((p < e.number) ⊎ (e.number ≤ p)) → ((committed B L e.tid ≡ true) ⊎ (committed B L e.tid ≡ false)) → ((puts (effect B e.tid q b) ≡ true) ⊎ (puts (effect B e.tid q b) ≡ false))
          → (replay B L q p b es x ≡ x) ⊎ Some (Counts L) es → (replay B L q p b es (turn L e x) ≡ x) ⊎ Some (Counts L) (e ∷ es)
      go (inr l) c w r = still (rw (le-ltb p e.number l) refl) r
      go (inl l) (inr c) w r = still (rw (lt-ltb p e.number l, c) refl) r
      go (inl l) (inl c) (inr w) r = still (rw (lt-ltb p e.number l, c) (applied_keep (effect B e.tid q b) w x)) r
      go (inl l) (inl c) (inl w) r = inr (inl (l, c, w))

  -- a committed entry past the pointer that conflicts with no later one has the last word
  pub replay_last : (L : List (Yes V)) (n : ℕ) → committed B L n ≡ true → puts (effect B n q b) ≡ true → (es : List Entry)
      → Pairs (λ e f. Conflict B q e.tid f.tid → e.outcome ≡ absent → ⊥) es
      → Some (λ e. (e.tid ≡ n) × (p < e.number) × (e.outcome ≡ absent)) es → (x y : V) → replay B L q p b es x ≡ applied (effect B n q b) y
  unfolding replay
  replay_last L n c w [] l h x y = absurd h
  replay_last L n c w (e ∷ es) l (inl h) x y =
      let at_e : turn L e x ≡ applied (effect B n q b) x = rw (lt-ltb p e.number h.1, h.0, c) refl in
      replay_keep L es (all_map _ _ (λ f a. not_so (puts (effect B f.tid q b)) (λ pf. a (b, inl (rw h.0 w, inl pf)) h.2)) es l.0) (turn L e x)
      ∙ at_e ∙ applied_put (effect B n q b) w x y
  replay_last L n c w (e ∷ es) l (inr h) x y = replay_last L n c w es l.1 h (turn L e x) y

  -- ## One more is committed

  -- n, not committed so far, is now: it counts from here on, and no later entry writes what it writes
  module _ (L M : List (Yes V)) (n : ℕ) (old : committed B L n ≡ false) (new : committed B M n ≡ true)
      (same : (m : ℕ) → (m ≡ n → ⊥) → committed B M m ≡ committed B L m) where
    abbrev Apart : Entry → Entry → Type 0
    Apart e f = (e.tid ≡ f.tid → ⊥) × (e.tid ≡ n → puts (effect B n q b) ≡ true → puts (effect B f.tid q b) ≡ false)

    commute : (es : List Entry) → (puts (effect B n q b) ≡ true → All (λ f. puts (effect B f.tid q b) ≡ false) es) → (x : V)
        → replay B L q p b es (applied (effect B n q b) x) ≡ applied (effect B n q b) (replay B L q p b es x)
    commute es h x = go (cases_Bool (puts (effect B n q b)))
      where
        go : ((puts (effect B n q b) ≡ true) ⊎ (puts (effect B n q b) ≡ false)) → replay B L q p b es (applied (effect B n q b) x) ≡ applied (effect B n q b) (replay B L q p b es x)
        go (inl w) = replay_keep L es (h w) (applied (effect B n q b) x) ∙ applied_put (effect B n q b) w x (replay B L q p b es x)
        go (inr w) = ap (replay B L q p b es) (applied_keep (effect B n q b) w x) ∙ sym (applied_keep (effect B n q b) w (replay B L q p b es x))

    rest_same : (e : Entry) (es : List Entry) → e.tid ≡ n → All (Apart e) es → All (λ f. committed B M f.tid ≡ committed B L f.tid) es
    rest_same e es r = all_map (Apart e) (λ f. committed B M f.tid ≡ committed B L f.tid) (λ f a. same f.tid (λ z. a.0 (r ∙ sym z))) es

    head_other : (e : Entry) (es : List Entry) → All (Apart e) es → Some (λ f. (f.tid ≡ n) × (p < f.number)) es → e.tid ≡ n → ⊥
    head_other e [] h x r = x
    head_other e (f ∷ fs) h (inl x) r = h.0.0 (r ∙ sym x.0)
    head_other e (f ∷ fs) h (inr x) r = head_other e fs h.1 x r

    pub replay_commit : (es : List Entry) → Pairs Apart es → Some (λ f. (f.tid ≡ n) × (p < f.number)) es → (x : V)
        → replay B M q p b es x ≡ applied (effect B n q b) (replay B L q p b es x)
    unfolding replay
    replay_commit [] a h x = absurd h
    replay_commit (e ∷ es) a (inl h) x =
        let at_m : turn M e x ≡ applied (effect B n q b) x = rw (lt-ltb p e.number h.1, h.0, new) refl in
        let at_l : turn L e x ≡ x = rw (lt-ltb p e.number h.1, h.0, old) refl in
        ap (replay B M q p b es) at_m
        ∙ replay_same L M es (rest_same e es h.0 a.0) (applied (effect B n q b) x)
        ∙ commute es (λ w. all_map (Apart e) (λ f. puts (effect B f.tid q b) ≡ false) (λ f z. z.1 h.0 w) es a.0) x
        ∙ ap (λ y. applied (effect B n q b) (replay B L q p b es y)) (sym at_l)
    replay_commit (e ∷ es) a (inr h) x =
        let same_turn : turn M e x ≡ turn L e x = rw (same e.tid (head_other e es a.0 h)) refl in
        ap (replay B M q p b es) same_turn ∙ replay_commit es a.1 h (turn L e x)

-- ## A pointer further on

module _ {V : Type 0} (B : Book V) (q b : ℕ) (L : List (Yes V)) (p p' : ℕ) (l : p ≤ p') where
  -- past both pointers the two replays are one
  both_past : (es : List Entry) → All (λ e. p' < e.number) es → (x : V) → replay B L q p' b es x ≡ replay B L q p b es x
  unfolding replay
  both_past [] h x = refl
  both_past (e ∷ es) h x =
      let past : p < e.number = omega (arith, h.0) in
      rw (lt-ltb p' e.number h.0, lt-ltb p e.number past) (both_past es h.1 (cond (committed B L e.tid) (applied (effect B e.tid q b) x) x))

  pub replay_further : (es : List Entry) → Pairs (λ e f. e.number < f.number) es → Some (Counts B q p' b L) es → (x y : V) → replay B L q p' b es x ≡ replay B L q p b es y
  unfolding replay
  replay_further [] o h x y = absurd h
  replay_further (e ∷ es) o (inl h) x y =
      let past : p < e.number = omega (arith, h.0) in
      rw (lt-ltb p' e.number h.0, lt-ltb p e.number past, h.1)
      (both_past es (all_map _ _ (λ f z. omega (arith, z, h.0)) es o.0) (applied (effect B e.tid q b) x)
      ∙ ap (replay B L q p b es) (applied_put (effect B e.tid q b) h.2 x y))
  replay_further (e ∷ es) o (inr h) x y = replay_further es o.1 h (turn B q p' b L e x) (turn B q p b L e y)
