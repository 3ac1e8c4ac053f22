-- The invariant without memories: votes, outcomes, pointers and verdicts.
use Rattle.std.proofs.Common.{◌≡◌, ℕ, ◌<◌, ◌≤◌, true, false, ◌⊎◌, refl, subst, inl, inr, ⊎_elim}
use Rattle.std.specs.List.{AllByRecursion as All}
use Rattle.std.proofs.lemmas.Bool.{both_ways, cases_lt}
use Rattle.model.proofs.core.Lists.{has, Some, Pairs, all_map, all_some, some_all}
use Rattle.model.proofs.core.State.{Book, Outcome, absent, present, prepares, State, has_voted_yes}
use Rattle.model.proofs.core.Facts.{Committed, Dead, Ended, Justified, OutcomeRight, VerdictRight, EntryRight}

abbrev pub Durable : Outcome → Type 0
Durable absent = ⊥
Durable (present v d) = d ≡ true

pub absent_not_durable : (o : Outcome) → o ≡ absent → Durable o → ⊥
absent_not_durable absent e h = h
absent_not_durable (present v d) e h = subst Durable e h

pub record Agreement {V : Type 0} (B : Book V) (s : State V) : Type 0 where
  -- prepares: none once the node has voted yes, never two
  pub prepare_spent : (n q : ℕ) → has_voted_yes s n q ≡ true → prepares n q s.network ≡ 0
  pub prepare_once : (n q : ℕ) → prepares n q s.network ≤ 1
  -- no node writes two yes entries of one tid
  pub yes_once_lem : Pairs (λ y z. y.tid ≡ z.tid → y.place ≡ z.place → ⊥) s.past.log
  -- nothing speaks of a tid that was not given
  pub unopened : (n q : ℕ) → s.next ≤ n → (prepares n q s.network ≡ 0) × (has_voted_yes s n q ≡ false)
  pub messages : All (Justified B s) s.network
  pub notes : All (Justified B s) s.notes
  pub verdicts : All (VerdictRight B s) s.past.verdicts
  pub entries : (q : ℕ) → All (EntryRight B s q) (s.nodes q).entries
  -- an entry goes only when its minitransaction is dead or over
  pub stands : (n q : ℕ) → has_voted_yes s n q ≡ true → Some (λ e. e.tid ≡ n) (s.nodes q).entries ⊎ Ended B s n
  pub pointer_given : (q : ℕ) → (s.nodes q).pointer ≤ (s.nodes q).given
  pub durable_behind : (q : ℕ) → All (λ e. e.number ≤ (s.nodes q).pointer → Durable e.outcome) (s.nodes q).entries

-- neither dead nor committed
abbrev pub Undecided : {V : Type 0} → Book V → State V → ℕ → Type 0
Undecided B s n = (Dead B s n → ⊥) × (Committed B s n → ⊥)

module _ {V : Type 0} (B : Book V) (s : State V) (v : Agreement B s) where
  pub voted_opened : (n q : ℕ) → has_voted_yes s n q ≡ true → n < s.next
  voted_opened n q h = ⊎_elim (λ l. l) (λ l. absurd (both_ways (has_voted_yes s n q) (v.unopened n q l).1 h)) (cases_lt n s.next)

  -- ## Entries without an outcome

  -- an entry without an outcome lies past the pointer
  pub absent_past : (n q : ℕ) → Some (λ e. (e.tid ≡ n) × (e.outcome ≡ absent)) (s.nodes q).entries
      → Some (λ e. (e.tid ≡ n) × ((s.nodes q).pointer < e.number) × (e.outcome ≡ absent)) (s.nodes q).entries
  absent_past n q = some_all _ _ _ (λ e f h. (h.0, ⊎_elim (λ l. l) (λ l. absurd (absent_not_durable e.outcome h.1 (f l))) (cases_lt (s.nodes q).pointer e.number), h.1)) (s.nodes q).entries (v.durable_behind q)

  pub all_absent_past : (q : ℕ) → All (λ e. e.outcome ≡ absent → (s.nodes q).pointer < e.number) (s.nodes q).entries
  all_absent_past q = all_map _ _ (λ e f z. ⊎_elim (λ l. l) (λ l. absurd (absent_not_durable e.outcome z (f l))) (cases_lt (s.nodes q).pointer e.number)) (s.nodes q).entries (v.durable_behind q)

  -- a standing entry was voted yes, by a participant
  pub standing_voted : (n q : ℕ) → Some (λ e. e.tid ≡ n) (s.nodes q).entries → has_voted_yes s n q ≡ true
  standing_voted n q = all_some (EntryRight B s q) _ (has_voted_yes s n q ≡ true) (λ e z r. rw r at z.wrote) (s.nodes q).entries (v.entries q)

  pub standing_participant : (n q : ℕ) → Some (λ e. e.tid ≡ n) (s.nodes q).entries → has q (B n).participants ≡ true
  standing_participant n q = all_some (EntryRight B s q) _ (has q (B n).participants ≡ true) (λ e z r. rw r at z.participant) (s.nodes q).entries (v.entries q)

  -- the entry of an undecided minitransaction stands, without an outcome, past the pointer
  pub undecided_stands : (n q : ℕ) → Undecided B s n → has_voted_yes s n q ≡ true
      → Some (λ e. (e.tid ≡ n) × ((s.nodes q).pointer < e.number) × (e.outcome ≡ absent)) (s.nodes q).entries
  undecided_stands n q u y = ⊎_elim (λ x. absent_past n q (some_all _ _ _ (λ e o h. (h, is_absent e.outcome (rw h at o.right))) (s.nodes q).entries (v.entries q) x)) (λ x. absurd (ended x)) (v.stands n q y)
    where
      ended : Ended B s n → ⊥
      ended (inl d) = u.0 d
      ended (inr o) = u.1 o.0

      is_absent : (o : Outcome) → OutcomeRight B s n o → o ≡ absent
      is_absent absent h = refl
      is_absent (present true d) h = absurd (u.1 h)
      is_absent (present false d) h = absurd (u.0 h)
