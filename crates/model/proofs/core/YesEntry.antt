-- A node writes its yes entry: what was known stays known, and agreement's invariant stays.
use Rattle.std.proofs.Common.{◌≡◌, ℕ, suc, ◌<◌, ◌≤◌, true, false, ◌⊎◌, refl, ◌∙◌, subst₂, inl, inr, arith}
use Rattle.std.specs.List.{AllByRecursion as All}
use Rattle.std.proofs.lemmas.Bool.{cases_eq}
use Rattle.model.proofs.core.Lists.{update_same, update_other, update_both, Some, At, has, without, all_map, all_push, all_without, all_at, some_left, some_push, not_so}
use Rattle.model.proofs.core.State.{Book, Conflict, absent, Entry, Node, with_new_entry, says_prepare, prepares, State, has_voted_yes, accept}
use Rattle.model.proofs.core.Facts.{Closed, closed_kept, Dead, Settled, Ended, Justified, EntryRight, Extends, ended_stays, outcome_stays, all_justified_stays, verdicts_stay}
use Rattle.model.proofs.core.Network.{prepares_without, prepares_at}
use Rattle.model.proofs.core.Log.{same_yes, logged_here, logged_other, logged_more, logged_not}
use Rattle.model.proofs.core.Log as log
use Rattle.model.proofs.core.Agreement.{Durable, Agreement}

-- what a node that votes yes on n must have seen
pub record CanVoteYes {V : Type 0} (B : Book V) (s : State V) (i n q : ℕ) : Type 0 where
  pub there : At i s.network (says_prepare n q)
  pub not_closed : Closed s n q → ⊥
  -- nothing in doubt here conflicts with it
  pub apart : All (λ e. e.outcome ≡ absent → Conflict B q e.tid n → ⊥) (s.nodes q).entries
  -- its comparisons are true here
  pub matched : (B n).agrees q (s.nodes q).memory ≡ true

module _ {V : Type 0} (B : Book V) (s : State V) (v : Agreement B s) (i n q : ℕ) (g : CanVoteYes B s i n q) where
  abbrev t : State V
  t = accept s i n q

  abbrev k : Node V
  k = with_new_entry (s.nodes q) n

  one_there : prepares n q s.network ≡ suc (prepares n q (without i s.network))
  one_there = prepares_at n q i s.network g.there

  pub not_yet : has_voted_yes s n q ≡ true → ⊥
  not_yet h = omega (arith, v.prepare_spent n q h, one_there)

  here : t.nodes q ≡ k
  here = update_same s.nodes q k

  there : (p : ℕ) → (p ≡ q → ⊥) → t.nodes p ≡ s.nodes p
  there p h = update_other s.nodes q k p h

  voted_other : (m p : ℕ) → (m ≡ n → p ≡ q → ⊥) → has_voted_yes t m p ≡ has_voted_yes s m p
  voted_other = logged_other s.past.log n q (s.nodes q).memory

  -- ## What was known stays known

  settled_kept : (m p : ℕ) → has_voted_yes s m p ≡ true → Settled B s m p → Settled B t m p
  settled_kept m p h = update_both (λ p' k'. has_voted_yes s m p' ≡ true → Settled B s m p' → All (λ e. e.tid ≡ m → e.number ≤ k'.pointer) k'.entries) s.nodes q k
      (λ y a. all_push (λ e. e.tid ≡ m → e.number ≤ (s.nodes q).pointer) (s.nodes q).entries _ a (λ e. absurd (not_yet (rw e y))))
      (λ j _ _ a. a) p h

  dead_kept : (m : ℕ) → Dead B s m → Dead B t m
  dead_kept m d = go (same_yes n q m d.place)
    where
      forced_same : (p : ℕ) → (t.nodes p).forced ≡ (s.nodes p).forced
      forced_same = update_both (λ p k'. k'.forced ≡ (s.nodes p).forced) s.nodes q k refl (λ _ _. refl)

      go : (((m ≡ n) × (d.place ≡ q)) ⊎ (m ≡ n → d.place ≡ q → ⊥)) → Dead B t m
      go (inl e) = absurd (g.not_closed (rw (e.0, e.1) at d.closed))
      go (inr e) = record {
        place = d.place;
        opened = d.opened;
        participant = d.participant;
        never = voted_other m d.place e ∙ d.never;
        closed = closed_kept s t m d.place (prepares_without m d.place i s.network) (λ h. rw (forced_same d.place) h) d.closed;
      }

  pub extends : Extends B s t
  extends = record {
    later = omega arith;
    wrote = logged_more s.past.log n q (s.nodes q).memory;
    saw = λ m p y. log.seen_other s.past.log n q (s.nodes q).memory s.past.made m p (λ e f. not_yet (subst₂ (λ a b. has_voted_yes s a b ≡ true) e f y));
    dead = dead_kept;
    settled = settled_kept;
  }

  -- ## The invariant

  entry_kept : (p : ℕ) (e : Entry) → (s.nodes p).given ≤ (t.nodes p).given → EntryRight B s p e → EntryRight B t p e
  entry_kept p e l o = record {
    wrote = extends.wrote e.tid p o.wrote;
    participant = o.participant;
    low = omega (arith, o.low);
    right = outcome_stays B s t extends e.tid e.outcome o.right;
  }

  pub opened : (n < s.next) × (has q (B n).participants ≡ true)
  opened = all_at (Justified B s) i s.network (says_prepare n q) g.there v.messages

  entries' : (p : ℕ) → All (EntryRight B t p) (t.nodes p).entries
  entries' p = go (cases_eq p q)
    where
      go : ((p ≡ q) ⊎ (p ≡ q → ⊥)) → All (EntryRight B t p) (t.nodes p).entries
      go (inl e) = rw (e, here) (all_push (EntryRight B t q) (s.nodes q).entries _
          (all_map (EntryRight B s q) (EntryRight B t q) (λ x. entry_kept q x (rw here (omega arith))) (s.nodes q).entries (v.entries q))
          (record { wrote = logged_here s.past.log n q (s.nodes q).memory; participant = opened.1; low = rw here (omega arith); right = tt }))
      go (inr e) = rw (there p e) (all_map (EntryRight B s p) (EntryRight B t p) (λ x. entry_kept p x (rw (there p e) (omega arith))) (s.nodes p).entries (v.entries p))

  stands' : (m p : ℕ) → has_voted_yes t m p ≡ true → Some (λ e. e.tid ≡ m) (t.nodes p).entries ⊎ Ended B t m
  stands' m p h = go (same_yes n q m p)
    where
      old : Some (λ e. e.tid ≡ m) (s.nodes p).entries ⊎ Ended B s m → Some (λ e. e.tid ≡ m) (t.nodes p).entries ⊎ Ended B t m
      old (inl x) = inl (update_both (λ p' k'. Some (λ e. e.tid ≡ m) (s.nodes p').entries → Some (λ e. e.tid ≡ m) k'.entries) s.nodes q k
          (some_left (λ e. e.tid ≡ m) (s.nodes q).entries _) (λ _ _ z. z) p x)
      old (inr x) = inr (ended_stays B s t extends m x)

      go : (((m ≡ n) × (p ≡ q)) ⊎ (m ≡ n → p ≡ q → ⊥)) → Some (λ e. e.tid ≡ m) (t.nodes p).entries ⊎ Ended B t m
      go (inl e) = inl (rw (e.0, e.1, here) (some_push (λ x. x.tid ≡ n) (s.nodes q).entries _ refl))
      go (inr e) = old (v.stands m p (rw (voted_other m p e) at h))

  spent' : (m p : ℕ) → has_voted_yes t m p ≡ true → prepares m p t.network ≡ 0
  spent' m p h = go (same_yes n q m p)
    where
      go : (((m ≡ n) × (p ≡ q)) ⊎ (m ≡ n → p ≡ q → ⊥)) → prepares m p t.network ≡ 0
      go (inl e) = rw (e.0, e.1) (omega (arith, one_there, v.prepare_once n q))
      go (inr e) = omega (arith, v.prepare_spent m p (rw (voted_other m p e) at h), prepares_without m p i s.network)

  unopened' : (m p : ℕ) → s.next ≤ m → (prepares m p t.network ≡ 0) × (has_voted_yes t m p ≡ false)
  unopened' m p h = (
    omega (arith, (v.unopened m p h).0, prepares_without m p i s.network),
    voted_other m p (λ e _. omega (arith, opened.0)) ∙ (v.unopened m p h).1,
  )

  pub agreement : Agreement B t
  agreement = record {
    prepare_spent = spent';
    prepare_once = λ m p. omega (arith, v.prepare_once m p, prepares_without m p i s.network);
    yes_once_lem = (logged_not s.past.log n q (s.nodes q).memory (not_so (has_voted_yes s n q) not_yet), v.yes_once_lem);
    unopened = unopened';
    messages = all_without (Justified B t) i s.network (all_justified_stays B s t extends s.network v.messages);
    notes = all_justified_stays B s t extends s.notes v.notes;
    verdicts = verdicts_stay B s t extends s.past.verdicts v.verdicts;
    entries = entries';
    stands = stands';
    pointer_given = update_both (λ _ k'. k'.pointer ≤ k'.given) s.nodes q k (omega (arith, v.pointer_given q)) (λ p _. v.pointer_given p);
    durable_behind = update_both (λ _ k'. All (λ e. e.number ≤ k'.pointer → Durable e.outcome) k'.entries) s.nodes q k
        (all_push _ (s.nodes q).entries _ (v.durable_behind q) (λ h. absurd (omega (arith, v.pointer_given q, h)))) (λ p _. v.durable_behind p);
  }
