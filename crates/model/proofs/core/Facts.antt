-- What may be known of a minitransaction for good, what justifies a message or a note, and why both stay.
use Rattle.std.proofs.Common.{◌≡◌, ℕ, ◌<◌, ◌≤◌, Bool, true, false, ◌⊎◌, List, refl, ◌∙◌, inl, inr, ⊎_elim, arith}
use Rattle.std.specs.List.{AllByRecursion as All}
use Rattle.std.proofs.lemmas.Bool.{both_ways}
use Rattle.model.proofs.core.Lists.{has, every_has, every_map, all_map, all_some, Some}
use Rattle.model.proofs.core.State.{Book, Outcome, absent, present, Entry, Claim, says_prepare, says_vote, says_finish, says_inquiry, says_reply, says_query, says_settled, says_outcome, silent, prepares, Verdict, State, committed, has_voted_yes, saw_at}

-- ## A node that can no longer vote yes

-- node q can no longer vote yes on n: whatever forbids a vote enters here
pub data Closed {V : Type 0} (s : State V) (n q : ℕ) : Type 0 where
  no_prepare : prepares n q s.network ≡ 0 → Closed s n q
  forced_abort : (s.nodes q).forced n ≡ true → Closed s n q

-- prepares only leave, forced aborts only come
pub closed_kept : {V : Type 0} (s t : State V) (n q : ℕ) → prepares n q t.network ≤ prepares n q s.network
    → ((s.nodes q).forced n ≡ true → (t.nodes q).forced n ≡ true) → Closed s n q → Closed t n q
closed_kept s t n q l f (no_prepare h) = no_prepare (omega arith)
closed_kept s t n q l f (forced_abort h) = forced_abort (f h)

-- a node that holds a prepare and has not forced an abort may still vote yes
pub not_closed : {V : Type 0} (s : State V) (n q : ℕ) → 0 < prepares n q s.network → (s.nodes q).forced n ≡ false → Closed s n q → ⊥
not_closed s n q l f (no_prepare h) = omega arith
not_closed s n q l f (forced_abort h) = both_ways ((s.nodes q).forced n) f h

-- ## Facts that stay

module _ {V : Type 0} (B : Book V) (s : State V) where
  abbrev pub Committed : ℕ → Type 0
  Committed n = committed B s.past.log n ≡ true

  -- some participant has not voted yes and never will
  pub record Dead (n : ℕ) : Type 0 where
    pub place : ℕ
    pub opened : n < s.next
    pub participant : has place (B n).participants ≡ true
    pub never : has_voted_yes s n place ≡ false
    pub closed : Closed s n place

  -- no entry of n stands past the pointer of node q
  abbrev pub Settled : ℕ → ℕ → Type 0
  Settled n q = All (λ e. e.tid ≡ n → e.number ≤ (s.nodes q).pointer) (s.nodes q).entries

  -- committed, and durably applied at every participant
  abbrev pub Over : ℕ → Type 0
  Over n = Committed n × ((q : ℕ) → has q (B n).participants ≡ true → Settled n q)

  abbrev pub Ended : ℕ → Type 0
  Ended n = Dead n ⊎ Over n

  -- an outcome of n, told for good
  abbrev pub Known : ℕ → Bool → Type 0
  Known n true = Committed n
  Known n false = Dead n

  -- what justifies a message or a note
  abbrev pub Justified : Claim → Type 0
  Justified (says_prepare n q) = (n < s.next) × (has q (B n).participants ≡ true)
  Justified (says_vote n q true) = has_voted_yes s n q ≡ true
  Justified (says_vote n q false) = Dead n
  Justified (says_finish n true) = Committed n
  Justified (says_finish n false) = Ended n
  Justified (says_inquiry n q) = (n < s.next) × (has q (B n).participants ≡ true)
  Justified (says_reply n q true) = has_voted_yes s n q ≡ true
  Justified (says_reply n q false) = Ended n
  Justified (says_query n q) = (Dead n ⊎ Committed n) × (has q (B n).participants ≡ true)
  Justified (says_settled n q) = Dead n ⊎ ((has_voted_yes s n q ≡ true) × Settled n q)
  Justified (says_outcome n v) = Known n v
  Justified silent = Unit {0}

  abbrev pub OutcomeRight : ℕ → Outcome → Type 0
  OutcomeRight n absent = Unit {0}
  OutcomeRight n (present v d) = Known n v

  abbrev pub VerdictRight : Verdict → Type 0
  VerdictRight v = Known v.tid v.committed

  pub record EntryRight (q : ℕ) (e : Entry) : Type 0 where
    pub wrote : has_voted_yes s e.tid q ≡ true
    pub participant : has q (B e.tid).participants ≡ true
    pub low : e.number ≤ (s.nodes q).given
    pub right : OutcomeRight e.tid e.outcome

  -- ## Exclusion

  pub dead_not_committed : (n : ℕ) → Dead n → Committed n → ⊥
  dead_not_committed n d c = both_ways (has_voted_yes s n d.place) d.never (every_has (has_voted_yes s n) (B n).participants d.place c d.participant)

  pub known_committed : (n : ℕ) (v : Bool) → Known n v → committed B s.past.log n ≡ v
  known_committed n true h = h
  known_committed n false h = go (committed B s.past.log n) refl
    where
      go : (c : Bool) → committed B s.past.log n ≡ c → c ≡ false
      go true e = absurd (dead_not_committed n h e)
      go false e = refl

  -- an entry past the pointer keeps its minitransaction from being over
  pub ended_past_dead : (n q : ℕ) → has q (B n).participants ≡ true → Some (λ e. (e.tid ≡ n) × ((s.nodes q).pointer < e.number)) (s.nodes q).entries → Ended n → Dead n
  ended_past_dead n q p x (inl d) = d
  ended_past_dead n q p x (inr o) = absurd (all_some {A = Entry} _ _ ⊥ (λ e l h. omega (arith, l h.0, h.1)) (s.nodes q).entries (o.1 q p) x)

-- ## What one state knows, a later one knows

pub record Extends {V : Type 0} (B : Book V) (s t : State V) : Type 0 where
  pub later : s.next ≤ t.next
  pub wrote : (n q : ℕ) → has_voted_yes s n q ≡ true → has_voted_yes t n q ≡ true
  pub saw : (n q : ℕ) → has_voted_yes s n q ≡ true → saw_at t n q ≡ saw_at s n q
  pub dead : (n : ℕ) → Dead B s n → Dead B t n
  pub settled : (n q : ℕ) → has_voted_yes s n q ≡ true → Settled B s n q → Settled B t n q

module _ {V : Type 0} (B : Book V) (s t : State V) (x : Extends B s t) where
  pub committed_stays : (n : ℕ) → Committed B s n → Committed B t n
  committed_stays n = every_map (has_voted_yes s n) (has_voted_yes t n) (x.wrote n) (B n).participants

  pub over_stays : (n : ℕ) → Over B s n → Over B t n
  over_stays n o = (committed_stays n o.0, λ q h. x.settled n q (every_has (has_voted_yes s n) (B n).participants q o.0 h) (o.1 q h))

  pub ended_stays : (n : ℕ) → Ended B s n → Ended B t n
  ended_stays n (inl d) = inl (x.dead n d)
  ended_stays n (inr o) = inr (over_stays n o)

  pub known_stays : (n : ℕ) (v : Bool) → Known B s n v → Known B t n v
  known_stays n true h = committed_stays n h
  known_stays n false h = x.dead n h

  pub justified_stays : (m : Claim) → Justified B s m → Justified B t m
  justified_stays (says_prepare n q) j = (omega (arith, x.later), j.1)
  justified_stays (says_vote n q true) j = x.wrote n q j
  justified_stays (says_vote n q false) j = x.dead n j
  justified_stays (says_finish n true) j = committed_stays n j
  justified_stays (says_finish n false) j = ended_stays n j
  justified_stays (says_inquiry n q) j = (omega (arith, x.later), j.1)
  justified_stays (says_reply n q true) j = x.wrote n q j
  justified_stays (says_reply n q false) j = ended_stays n j
  justified_stays (says_query n q) j = (⊎_elim (λ d. inl (x.dead n d)) (λ c. inr (committed_stays n c)) j.0, j.1)
  justified_stays (says_settled n q) (inl d) = inl (x.dead n d)
  justified_stays (says_settled n q) (inr c) = inr (x.wrote n q c.0, x.settled n q c.0 c.1)
  justified_stays (says_outcome n v) j = known_stays n v j
  justified_stays silent j = j

  pub all_justified_stays : (ms : List Claim) → All (Justified B s) ms → All (Justified B t) ms
  all_justified_stays = all_map (Justified B s) (Justified B t) justified_stays

  pub outcome_stays : (n : ℕ) (o : Outcome) → OutcomeRight B s n o → OutcomeRight B t n o
  outcome_stays n absent h = h
  outcome_stays n (present v d) h = known_stays n v h

  pub verdicts_stay : (vs : List Verdict) → All (VerdictRight B s) vs → All (VerdictRight B t) vs
  verdicts_stay = all_map (VerdictRight B s) (VerdictRight B t) (λ v. known_stays v.tid v.committed)

pub extends_refl : {V : Type 0} (B : Book V) (s : State V) → Extends B s s
extends_refl B s = record { later = omega arith; wrote = λ n q h. h; saw = λ n q _. refl; dead = λ n d. d; settled = λ n q _ h. h }

pub extends_trans : {V : Type 0} (B : Book V) (s t u : State V) → Extends B s t → Extends B t u → Extends B s u
extends_trans B s t u x y = record {
  later = omega (arith, x.later, y.later);
  wrote = λ n q h. y.wrote n q (x.wrote n q h);
  saw = λ n q h. y.saw n q (x.wrote n q h) ∙ x.saw n q h;
  dead = λ n d. y.dead n (x.dead n d);
  settled = λ n q h z. y.settled n q (x.wrote n q h) (x.settled n q h z);
}
