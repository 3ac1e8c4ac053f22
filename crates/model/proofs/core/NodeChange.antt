-- One node changes and nothing else: what the change has to show for agreement's invariant to stay.
use Rattle.std.proofs.Common.{◌≡◌, ℕ, ◌≤◌, true, ◌⊎◌, refl, inl, inr, ⊎_elim, arith}
use Rattle.std.specs.List.{AllByRecursion as All}
use Rattle.std.proofs.lemmas.Bool.{cases_eq}
use Rattle.model.proofs.core.Lists.{update_same, update_other, update_both, Some, has, all_map}
use Rattle.model.proofs.core.State.{Book, Node, State, has_voted_yes, state_with_node}
use Rattle.model.proofs.core.Facts.{closed_kept, Dead, Settled, Ended, OutcomeRight, EntryRight, Extends, ended_stays, outcome_stays, all_justified_stays, verdicts_stay}
use Rattle.model.proofs.core.Agreement.{Durable, Agreement}

pub record NodeChange {V : Type 0} (B : Book V) (s : State V) (q : ℕ) (k : Node V) : Type 0 where
  pub forced_kept : (n : ℕ) → (s.nodes q).forced n ≡ true → k.forced n ≡ true
  pub pointer_given : k.pointer ≤ k.given
  pub entries_right : All (λ e. (has_voted_yes s e.tid q ≡ true) × (has q (B e.tid).participants ≡ true) × (e.number ≤ k.given) × OutcomeRight B s e.tid e.outcome) k.entries
  pub settled_kept : (n : ℕ) → Settled B s n q → All (λ e. e.tid ≡ n → e.number ≤ k.pointer) k.entries
  pub stands_kept : (n : ℕ) → Some (λ e. e.tid ≡ n) (s.nodes q).entries → Some (λ e. e.tid ≡ n) k.entries ⊎ Ended B s n
  pub durable_behind : All (λ e. e.number ≤ k.pointer → Durable e.outcome) k.entries

module _ {V : Type 0} (B : Book V) (s : State V) (v : Agreement B s) (q : ℕ) (k : Node V) (g : NodeChange B s q k) where
  abbrev t : State V
  t = state_with_node s q k

  here : t.nodes q ≡ k
  here = update_same s.nodes q k

  there : (p : ℕ) → (p ≡ q → ⊥) → t.nodes p ≡ s.nodes p
  there p h = update_other s.nodes q k p h

  dead_kept : (n : ℕ) → Dead B s n → Dead B t n
  dead_kept n d = record {
    place = d.place;
    opened = d.opened;
    participant = d.participant;
    never = d.never;
    closed = closed_kept s t n d.place (omega arith)
        (update_both (λ p k'. (s.nodes p).forced n ≡ true → k'.forced n ≡ true) s.nodes q k (g.forced_kept n) (λ _ _ z. z) d.place) d.closed;
  }

  pub extends : Extends B s t
  extends = record {
    later = omega arith;
    wrote = λ n p h. h;
    saw = λ n p _. refl;
    dead = dead_kept;
    settled = λ n p _. update_both (λ p' k'. Settled B s n p' → All (λ e. e.tid ≡ n → e.number ≤ k'.pointer) k'.entries) s.nodes q k (g.settled_kept n) (λ _ _ z. z) p;
  }

  entries' : (p : ℕ) → All (EntryRight B t p) (t.nodes p).entries
  entries' p = go (cases_eq p q)
    where
      go : ((p ≡ q) ⊎ (p ≡ q → ⊥)) → All (EntryRight B t p) (t.nodes p).entries
      go (inl e) = rw (e, here) (all_map _ (EntryRight B t q)
          (λ x o. record { wrote = o.0; participant = o.1; low = rw here o.2; right = outcome_stays B s t extends x.tid x.outcome o.3 }) k.entries g.entries_right)
      go (inr e) = rw (there p e) (all_map (EntryRight B s p) (EntryRight B t p)
          (λ x o. record { wrote = o.wrote; participant = o.participant; low = rw (there p e) o.low; right = outcome_stays B s t extends x.tid x.outcome o.right }) (s.nodes p).entries (v.entries p))

  stands' : (m p : ℕ) → has_voted_yes s m p ≡ true → Some (λ e. e.tid ≡ m) (t.nodes p).entries ⊎ Ended B t m
  stands' m p h =
      ⊎_elim
      (λ x. ⊎_elim inl (λ y. inr (ended_stays B s t extends m y))
      (update_both (λ p' k'. Some (λ e. e.tid ≡ m) (s.nodes p').entries → Some (λ e. e.tid ≡ m) k'.entries ⊎ Ended B s m) s.nodes q k (g.stands_kept m) (λ _ _ z. inl z) p x))
      (λ x. inr (ended_stays B s t extends m x))
      (v.stands m p h)

  pub agreement : Agreement B t
  agreement = record {
    prepare_spent = v.prepare_spent;
    prepare_once = v.prepare_once;
    yes_once_lem = v.yes_once_lem;
    unopened = v.unopened;
    messages = all_justified_stays B s t extends s.network v.messages;
    notes = all_justified_stays B s t extends s.notes v.notes;
    verdicts = verdicts_stay B s t extends s.past.verdicts v.verdicts;
    entries = entries';
    stands = stands';
    pointer_given = update_both (λ _ k'. k'.pointer ≤ k'.given) s.nodes q k g.pointer_given (λ p _. v.pointer_given p);
    durable_behind = update_both (λ _ k'. All (λ e. e.number ≤ k'.pointer → Durable e.outcome) k'.entries) s.nodes q k g.durable_behind (λ p _. v.durable_behind p);
  }
