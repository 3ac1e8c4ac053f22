-- The network, the notes, the next tid and the verdicts given change and no node does: what the change has to show for the invariant to stay.
use Rattle.std.proofs.Common.{◌≡◌, ℕ, suc, ◌<◌, ◌≤◌, true, eqb, ◌⊎◌, List, [], ◌∷◌, ◌++◌, refl, subst, inl, inr, ⊎_elim, arith}
use Rattle.std.specs.List.{AllByRecursion as All}
use Rattle.std.proofs.lemmas.Bool.{cases_eq, eq-eqb, or_right}
use Rattle.model.proofs.core.Lists.{has, Distinct, without, all_map, all_without, all_append, pairs_map}
use Rattle.model.proofs.core.State.{Book, Claim, prepares, prepare_each, Verdict, State, serial_run, state_with_network}
use Rattle.model.proofs.core.Facts.{closed_kept, Justified, VerdictRight, EntryRight, Extends, ended_stays, outcome_stays, all_justified_stays, verdicts_stay}
use Rattle.model.proofs.core.Network.{prepares_without, prepares_append, prepares_of_other, prepares_of_each_one}
use Rattle.model.proofs.core.Agreement.{Agreement, Undecided, voted_opened}
use Rattle.model.proofs.core.Memories.{Before, Legal, Memories}

pub record NetworkChange {V : Type 0} (B : Book V) (s : State V) (ms ns : List Claim) (x : ℕ) (vs : List Verdict) : Type 0 where
  pub later : s.next ≤ x
  pub fewer : (n q : ℕ) → n < s.next → prepares n q ms ≤ prepares n q s.network
  pub once : (n q : ℕ) → prepares n q ms ≤ 1
  pub unopened : (n q : ℕ) → x ≤ n → prepares n q ms ≡ 0
  pub messages : Extends B s (state_with_network s ms ns x vs) → All (Justified B (state_with_network s ms ns x vs)) ms
  pub notes : Extends B s (state_with_network s ms ns x vs) → All (Justified B (state_with_network s ms ns x vs)) ns
  pub verdicts : Extends B s (state_with_network s ms ns x vs) → All (VerdictRight B (state_with_network s ms ns x vs)) vs

module _ {V : Type 0} (B : Book V) (s : State V) (v : Agreement B s) (ms ns : List Claim) (x : ℕ) (vs : List Verdict) (g : NetworkChange B s ms ns x vs) where
  abbrev t : State V
  t = state_with_network s ms ns x vs

  pub extends : Extends B s t
  extends = record {
    later = g.later;
    wrote = λ n q h. h;
    saw = λ n q _. refl;
    settled = λ n q _ h. h;
    dead = λ n d. record {
      place = d.place;
      opened = omega (arith, d.opened, g.later);
      participant = d.participant;
      never = d.never;
      closed = closed_kept s t n d.place (g.fewer n d.place d.opened) (λ h. h) d.closed;
    };
  }

  pub agreement : Agreement B t
  agreement = record {
    prepare_spent = λ n q h. omega (arith, v.prepare_spent n q h, g.fewer n q (voted_opened B s v n q h));
    prepare_once = g.once;
    yes_once_lem = v.yes_once_lem;
    unopened = λ n q l. (g.unopened n q l, (v.unopened n q (omega (arith, g.later, l))).1);
    messages = g.messages extends;
    notes = g.notes extends;
    verdicts = g.verdicts extends;
    entries = λ q. all_map (EntryRight B s q) (EntryRight B t q) (λ e o. record { wrote = o.wrote; participant = o.participant; low = o.low; right = outcome_stays B s t extends e.tid e.outcome o.right }) (s.nodes q).entries (v.entries q);
    stands = λ n q h. ⊎_elim inl (λ y. inr (ended_stays B s t extends n y)) (v.stands n q h);
    pointer_given = v.pointer_given;
    durable_behind = v.durable_behind;
  }

  undecided_back : (n : ℕ) → Undecided B t n → Undecided B s n
  undecided_back n u = ((λ d. u.0 (extends.dead n d)), u.1)

  legal' : (l : List ℕ) → Legal B s l → Legal B t l
  legal' [] h = tt
  legal' (n ∷ l) h = (h.0, legal' l h.1)

  pub memories : Memories B s → Memories B t
  memories w = record {
    order = λ q. pairs_map (Before B s q) (Before B t q) (λ e f h. (h.0, h.1, λ c u. h.2 c (undecided_back e.tid u))) (s.nodes q).entries (w.order q);
    replayed = w.replayed;
    written_redone = w.written_redone;
    serving = λ q o. record { shows = (w.serving q o).shows; locks = (w.serving q o).locks };
    seen_serial = λ n q b y u r. w.seen_serial n q b y (undecided_back n u) r;
    seen_agrees = w.seen_agrees;
    legal = legal' (serial_run B s.past.log) w.legal;
    run_distinct = w.run_distinct;
    run_committed = w.run_committed;
    committed_run = w.committed_run;
  }

-- ## The changes that occur

module _ {V : Type 0} (B : Book V) (s : State V) (v : Agreement B s) where
  kept : (ms ns : List Claim) (x : ℕ) (vs : List Verdict) (cs : List Claim) → All (Justified B s) cs → Extends B s (state_with_network s ms ns x vs) → All (Justified B (state_with_network s ms ns x vs)) cs
  kept ms ns x vs cs h e = all_justified_stays B s (state_with_network s ms ns x vs) e cs h

  same_verdicts : (ms ns : List Claim) (x : ℕ) → Extends B s (state_with_network s ms ns x s.past.verdicts) → All (VerdictRight B (state_with_network s ms ns x s.past.verdicts)) s.past.verdicts
  same_verdicts ms ns x e = verdicts_stay B s (state_with_network s ms ns x s.past.verdicts) e s.past.verdicts v.verdicts

  -- a message leaves the network
  pub leaving : (i : ℕ) → NetworkChange B s (without i s.network) s.notes s.next s.past.verdicts
  leaving i = record {
    later = omega arith;
    fewer = λ n q _. prepares_without n q i s.network;
    once = λ n q. omega (arith, prepares_without n q i s.network, v.prepare_once n q);
    unopened = λ n q l. omega (arith, prepares_without n q i s.network, (v.unopened n q l).0);
    messages = λ e. all_without _ i s.network (kept _ _ _ _ s.network v.messages e);
    notes = kept _ _ _ _ s.notes v.notes;
    verdicts = same_verdicts _ _ _;
  }

  -- justified messages, none of them a prepare, are sent; notes and verdicts are any right ones
  pub sending : (cs ns : List Claim) (vs : List Verdict) → ((n q : ℕ) → prepares n q cs ≡ 0) → All (Justified B s) cs → All (Justified B s) ns → All (VerdictRight B s) vs
      → NetworkChange B s (s.network ++ cs) ns s.next vs
  sending cs ns vs z h k r = record {
    later = omega arith;
    fewer = λ n q _. omega (arith, prepares_append n q s.network cs, z n q);
    once = λ n q. omega (arith, prepares_append n q s.network cs, z n q, v.prepare_once n q);
    unopened = λ n q l. omega (arith, prepares_append n q s.network cs, z n q, (v.unopened n q l).0);
    messages = λ e. all_append _ s.network cs (kept _ _ _ _ s.network v.messages e) (kept _ _ _ _ cs h e);
    notes = kept _ _ _ _ ns k;
    verdicts = λ e. verdicts_stay B s (state_with_network s (s.network ++ cs) ns s.next vs) e vs r;
  }

  -- only notes and verdicts change
  pub noting : (ns : List Claim) (vs : List Verdict) → All (Justified B s) ns → All (VerdictRight B s) vs → NetworkChange B s s.network ns s.next vs
  noting ns vs h r = record {
    later = omega arith;
    fewer = λ n q _. omega arith;
    once = v.prepare_once;
    unopened = λ n q l. (v.unopened n q l).0;
    messages = kept _ _ _ _ s.network v.messages;
    notes = kept _ _ _ _ ns h;
    verdicts = λ e. verdicts_stay B s (state_with_network s s.network ns s.next vs) e vs r;
  }

  prepares_justified : (t : State V) (n : ℕ) (l : n < t.next) (qs : List ℕ) → ((q : ℕ) → has q qs ≡ true → has q (B n).participants ≡ true) → All (Justified B t) (prepare_each n qs)
  unfolding prepare_each has
  prepares_justified t n l [] h = tt
  prepares_justified t n l (q ∷ qs) h = ((l, h q (rw (eq-eqb q q refl) refl)), prepares_justified t n l qs (λ p z. h p (or_right (eqb p q) (has p qs) z)))

  -- the next minitransaction is opened
  pub opening : Distinct (B s.next).participants → NetworkChange B s (s.network ++ prepare_each s.next (B s.next).participants) s.notes (suc s.next) s.past.verdicts
  opening o = record {
    later = omega arith;
    fewer = λ n q l. omega (arith, prepares_append n q s.network new, prepares_of_other n s.next q ps (λ e. omega arith));
    once = λ n q. all_once n q (cases_eq s.next n);
    unopened = λ n q l. omega (arith, prepares_append n q s.network new, prepares_of_other n s.next q ps (λ e. omega arith), (v.unopened n q (omega (arith, l))).0);
    messages = λ e. all_append _ s.network new (kept _ _ _ _ s.network v.messages e) (prepares_justified _ s.next (omega arith) ps (λ q z. z));
    notes = kept _ _ _ _ s.notes v.notes;
    verdicts = same_verdicts _ _ _;
  }
    where
      ps : List ℕ
      ps = (B s.next).participants

      new : List Claim
      new = prepare_each s.next ps

      all_once : (n q : ℕ) → ((s.next ≡ n) ⊎ (s.next ≡ n → ⊥)) → prepares n q (s.network ++ new) ≤ 1
      all_once n q (inl e) = omega (arith, prepares_append n q s.network new, (v.unopened n q (omega arith)).0, subst (λ m. prepares m q (prepare_each s.next ps) ≤ 1) e (prepares_of_each_one s.next q ps o))
      all_once n q (inr e) = omega (arith, prepares_append n q s.network new, v.prepare_once n q, prepares_of_other n s.next q ps e)
