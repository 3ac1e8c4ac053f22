-- Why what is sent or noted is justified: each kind of message and note where it comes into being.
use Rattle.std.proofs.Common.{◌≡◌, ℕ, ◌<◌, ◌≤◌, Bool, true, false, ◌⊎◌, refl, inl, inr, ⊎_elim, arith}
use Rattle.std.proofs.lemmas.Bool.{cases_Bool, both_ways}
use Rattle.model.specs.Lists.{every}
use Rattle.model.proofs.core.Lists.{Some, At, has, without, all_at, all_some, all_two, some_map, every_has, every_from, every_fails, not_so}
use Rattle.model.proofs.core.State.{Book, Outcome, absent, present, Entry, Claim, says_prepare, says_vote, says_finish, says_inquiry, says_reply, says_query, says_settled, State, has_voted_yes, state_with_network, accept}
use Rattle.model.proofs.core.Facts.{no_prepare, forced_abort, Committed, Dead, Settled, Ended, Known, Justified, OutcomeRight, EntryRight, ended_past_dead}
use Rattle.model.proofs.core.Network.{prepares_at}
use Rattle.model.proofs.core.Log.{logged_here}
use Rattle.model.proofs.core.Agreement.{Durable, Agreement, standing_voted, standing_participant, voted_opened}

module _ {V : Type 0} (B : Book V) (s : State V) (v : Agreement B s) where
  -- ## Votes

  pub message_justified : (i : ℕ) (m : Claim) → At i s.network m → Justified B s m
  message_justified i m at = all_at (Justified B s) i s.network m at v.messages

  -- a node that took the prepare and wrote no yes entry never will
  pub refused_dead : (i n q : ℕ) → At i s.network (says_prepare n q) → Dead B (state_with_network s (without i s.network) s.notes s.next s.past.verdicts) n
  refused_dead i n q at = record {
    place = q;
    opened = (message_justified i (says_prepare n q) at).0;
    participant = (message_justified i (says_prepare n q) at).1;
    never = not_so (has_voted_yes s n q) (λ h. omega (arith, v.prepare_spent n q h, prepares_at n q i s.network at));
    closed = no_prepare (omega (arith, prepares_at n q i s.network at, v.prepare_once n q));
  }

  -- ## Decisions and rulings

  -- the decision on all votes is known
  pub votes_known : (n : ℕ) (f : ℕ → Bool) → ((q : ℕ) → has q (B n).participants ≡ true → Justified B s (says_vote n q (f q))) → Known B s n (every f (B n).participants)
  votes_known n f h = go (every f (B n).participants) refl
    where
      yes : (q : ℕ) (c : Bool) → c ≡ true → Justified B s (says_vote n q c) → has_voted_yes s n q ≡ true
      yes q true e j = j
      yes q false e j = absurd (both_ways false refl e)

      no : (q : ℕ) (c : Bool) → c ≡ false → Justified B s (says_vote n q c) → Dead B s n
      no q true e j = absurd (both_ways true e refl)
      no q false e j = j

      go : (c : Bool) → every f (B n).participants ≡ c → Known B s n c
      go true e = every_from (has_voted_yes s n) (B n).participants (λ q z. yes q (f q) (every_has f (B n).participants q e z) (h q z))
      go false e =
          let x = every_fails f (λ _. true) (B n).participants e (every_from (λ _. true) (B n).participants (λ _ _. refl)) in
          no x.0 (f x.0) x.2 (h x.0 x.1)

  -- the ruling on all replies justifies a finish
  pub replies_finish : (n : ℕ) (f : ℕ → Bool) → ((q : ℕ) → has q (B n).participants ≡ true → Justified B s (says_reply n q (f q))) → Justified B s (says_finish n (every f (B n).participants))
  replies_finish n f h = go (every f (B n).participants) refl
    where
      yes : (q : ℕ) (c : Bool) → c ≡ true → Justified B s (says_reply n q c) → has_voted_yes s n q ≡ true
      yes q true e j = j
      yes q false e j = absurd (both_ways false refl e)

      no : (q : ℕ) (c : Bool) → c ≡ false → Justified B s (says_reply n q c) → Ended B s n
      no q true e j = absurd (both_ways true e refl)
      no q false e j = j

      go : (c : Bool) → every f (B n).participants ≡ c → Justified B s (says_finish n c)
      go true e = every_from (has_voted_yes s n) (B n).participants (λ q z. yes q (f q) (every_has f (B n).participants q e z) (h q z))
      go false e =
          let x = every_fails f (λ _. true) (B n).participants e (every_from (λ _. true) (B n).participants (λ _ _. refl)) in
          no x.0 (f x.0) x.2 (h x.0 x.1)

  pub known_finish : (n : ℕ) (c : Bool) → Known B s n c → Justified B s (says_finish n c)
  known_finish n true h = h
  known_finish n false h = inl h

  -- ## Inquiries and replies

  -- about a standing entry, to any participant
  pub standing_inquiry : (n q p : ℕ) → Some (λ e. e.tid ≡ n) (s.nodes q).entries → has p (B n).participants ≡ true → Justified B s (says_inquiry n p)
  standing_inquiry n q p x h = (voted_opened B s v n q (standing_voted B s v n q x), h)

  pub standing_reply : (n q : ℕ) → Some (λ e. e.tid ≡ n) (s.nodes q).entries → Justified B s (says_reply n q true)
  standing_reply n q x = standing_voted B s v n q x

  -- no entry stands and the abort is forced: dead, or long over
  pub forced_reply : (n q : ℕ) → Justified B s (says_inquiry n q) → (Some (λ e. e.tid ≡ n) (s.nodes q).entries → ⊥) → (s.nodes q).forced n ≡ true → Justified B s (says_reply n q false)
  forced_reply n q j none f = go (cases_Bool (has_voted_yes s n q))
    where
      go : ((has_voted_yes s n q ≡ true) ⊎ (has_voted_yes s n q ≡ false)) → Ended B s n
      go (inl y) = ⊎_elim (λ x. absurd (none x)) (λ x. x) (v.stands n q y)
      go (inr y) = inl (record { place = q; opened = j.0; participant = j.1; never = y; closed = forced_abort f })

  -- ## Resolutions at a recovering node

  -- a no: the entry lies past the pointer, so it is dead and not over
  pub reply_no_known : (n q : ℕ) → Some (λ e. (e.tid ≡ n) × ((s.nodes q).pointer < e.number)) (s.nodes q).entries → Ended B s n → Known B s n false
  reply_no_known n q x = ended_past_dead B s n q (standing_participant B s v n q (some_map _ _ (λ e z. z.0) (s.nodes q).entries x)) x

  -- a yes of every other participant
  pub replies_yes_known : (n q : ℕ) → Some (λ e. e.tid ≡ n) (s.nodes q).entries
      → ((p : ℕ) → has p (B n).participants ≡ true → (p ≡ q) ⊎ (has_voted_yes s n p ≡ true)) → Known B s n true
  replies_yes_known n q x h = every_from (has_voted_yes s n) (B n).participants (λ p z. ⊎_elim (λ e. rw e (standing_voted B s v n q x)) (λ y. y) (h p z))

  -- ## Queries and acknowledgements

  -- an entry at or before the pointer has its outcome
  pub behind_known : (n q : ℕ) → Some (λ e. (e.tid ≡ n) × (e.number ≤ (s.nodes q).pointer)) (s.nodes q).entries → Dead B s n ⊎ Committed B s n
  behind_known n q x = all_some {A = Entry} (λ e. OutcomeRight B s e.tid e.outcome × (e.number ≤ (s.nodes q).pointer → Durable e.outcome)) _ (Dead B s n ⊎ Committed B s n)
      (λ e o h. ⊎_elim (λ d. inl (rw h.0 at d)) (λ c. inr (rw h.0 at c)) (go e e.outcome o.0 (o.1 h.1))) (s.nodes q).entries
      (all_two (EntryRight B s q) _ _ (λ e o f. (o.right, f)) (s.nodes q).entries (v.entries q) (v.durable_behind q)) x
    where
      go : (e : Entry) (o : Outcome) → OutcomeRight B s e.tid o → Durable o → Dead B s e.tid ⊎ Committed B s e.tid
      go e absent r f = absurd f
      go e (present true d) r f = inr r
      go e (present false d) r f = inl r

  pub behind_query : (n q p : ℕ) → Some (λ e. (e.tid ≡ n) × (e.number ≤ (s.nodes q).pointer)) (s.nodes q).entries → has p (B n).participants ≡ true → Justified B s (says_query n p)
  behind_query n q p x h = (behind_known n q x, h)

  pub query_settled : (n q : ℕ) → Justified B s (says_query n q) → Settled B s n q → Justified B s (says_settled n q)
  query_settled n q j h = ⊎_elim inl (λ c. inr (every_has (has_voted_yes s n) (B n).participants q c j.1, h)) j.0

-- the vote that goes with a yes entry
pub accepted_vote : {V : Type 0} (B : Book V) (s : State V) (i n q : ℕ) → Justified B (accept s i n q) (says_vote n q true)
accepted_vote B s i n q = logged_here s.past.log n q (s.nodes q).memory
