-- Effects of a node that make no write, or one, and what a node makes of an inquiry.
use Rattle.std.proofs.Common.{◌≡◌, ℕ, Bool, true, false, cond, not, List, [], ◌∷◌, refl, ap, ◌∙◌}
use Rattle.model.specs.declared.party.Party.{Party}
use Rattle.model.specs.Messages.{Message, reply}
use Rattle.model.specs.Journal.{has_entry, is_forced, is_forced_full}
use Rattle.model.specs.Writes.{Write, Stores, force}
use Rattle.model.specs.Node.{Node, journal_of}
use Rattle.model.specs.Handling.{Reaction, lost, taken, sending, from, inquired}
use Rattle.nodes.specs.Budgets.{MadeOne, Made}
use Rattle.nodes.specs.Effects.{Done}
use Rattle.nodes.proofs.Budgeting.{made_none, made_more}

-- ## Effects

pub done_quiet : (left : ℕ) (n : Node) (d : ℕ → Bool) (m : List Message) → Done left (record { writes = []; volatile = n.volatile; sent = m }) n d m left n d
done_quiet left n d m = record { made = made_none left n.stores d; volatile = refl; answer = refl }

pub made_single : (left left' : ℕ) (w : Write) (s s' : Stores) (d d' : ℕ → Bool) → MadeOne left w s d left' s' d' → Made left (w ∷ []) s d left' s' d'
made_single left left' w s s' d d' one = made_more left left' left' w [] s s' s' d d' d' one (made_none left' s' d')

-- ## An inquiry

module _ (q : ℕ) (n : Node) (tid : ℕ) (who : Party) where
  abbrev replying : Bool → Reaction
  replying b = taken (sending n (from q tid who (reply b)))

  abbrev promising : Reaction
  promising = taken (record { writes = force tid ∷ []; volatile = n.volatile; sent = from q tid who (reply false) ∷ [] })

  pub inquired_stands : has_entry (journal_of n) tid ≡ true → inquired q n tid who ≡ replying true
  inquired_stands h = ap (λ b. cond b (replying true) (cond (not (not (is_forced (journal_of n) tid))) (replying false) (cond (is_forced_full (journal_of n)) lost promising))) h

  inquired_not : has_entry (journal_of n) tid ≡ false → inquired q n tid who ≡ cond (not (not (is_forced (journal_of n) tid))) (replying false) (cond (is_forced_full (journal_of n)) lost promising)
  inquired_not h = ap (λ b. cond b (replying true) (cond (not (not (is_forced (journal_of n) tid))) (replying false) (cond (is_forced_full (journal_of n)) lost promising))) h

  pub inquired_forced : has_entry (journal_of n) tid ≡ false → is_forced (journal_of n) tid ≡ true → inquired q n tid who ≡ replying false
  inquired_forced h f = inquired_not h ∙ ap (λ b. cond (not (not b)) (replying false) (cond (is_forced_full (journal_of n)) lost promising)) f

  inquired_new : has_entry (journal_of n) tid ≡ false → is_forced (journal_of n) tid ≡ false → inquired q n tid who ≡ cond (is_forced_full (journal_of n)) lost promising
  inquired_new h f = inquired_not h ∙ ap (λ b. cond (not (not b)) (replying false) (cond (is_forced_full (journal_of n)) lost promising)) f

  pub inquired_promised : has_entry (journal_of n) tid ≡ false → is_forced (journal_of n) tid ≡ false → is_forced_full (journal_of n) ≡ false → inquired q n tid who ≡ promising
  inquired_promised h f r = inquired_new h f ∙ ap (λ b. cond b lost promising) r
