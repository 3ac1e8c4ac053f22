-- Laws of a history of a cluster that was made well, in the words of the rules.
use Rattle.std.proofs.Common.{◌≡◌, ℕ, zero, suc, Bool, true, List, [], ◌∷◌, map, length, Some as SomeOf, sym, refl, ap, ◌∙◌, arith}
use Rattle.std.specs.List.{AllByRecursion as All, slice_get}
use Rattle.std.proofs.lemmas.List.{length-map}
use Rattle.model.specs.Items.{Item}
use Rattle.model.specs.Cells.{Cell}
use Rattle.model.specs.Writes.{Stores}
use Rattle.model.specs.Making.{is_well_made}
use Rattle.model.specs.History.{Event, History, Faithful, ago}
use Rattle.model.specs.Deeds as deeds
use Rattle.model.specs.SerialRun.{Turn, turns, turn_of, serial_turn, serial_order, memories_made, items_of, yes_entries}
use Rattle.model.specs.Laws.{FinishedAt}
use Rattle.model.proofs.core.Lists.{Pairs, all_each}
use Rattle.model.proofs.core.State.{State, Yes, serial_run}
use Rattle.model.proofs.core.Laws.{serial_fits}
use Rattle.model.proofs.bridge.ItemBook.{item_book, item_book_lawful}
use Rattle.model.proofs.bridge.SerialMemories.{Within, Sized, made_cells, turns_same, logged_entry}
use Rattle.model.proofs.bridge.SerialTurns.{turn_compared}
use Rattle.model.proofs.bridge.Beginning.{sizes_of}
use Rattle.model.proofs.bridge.Abstraction.{cluster_seen}
use Rattle.model.proofs.bridge.Reached.{Reached, moment}
use Rattle.model.proofs.bridge.Agreed.{finished_alike_lem}
use Rattle.model.proofs.bridge.Whole.{within_of, beginning, booked_all, reached, reached_made}

-- ## Each yes entry once

no_two : (x : Yes Cell) (ys : List (Yes Cell)) (j : ℕ) (y : deeds.Yes) → logged_entry x ≡ y → All (λ (z : Yes Cell). x.tid ≡ z.tid → x.place ≡ z.place → ⊥) ys → slice_get (map logged_entry ys) j ≡ SomeOf y → ⊥
no_two x [] j y e a h = let z : ◌≡◌ {A = ℕ} 0 1 = cc in omega arith
no_two x (z ∷ ys) zero y e a h =
    let r : logged_entry z ≡ y = cc in
    a.0 (ap (λ (u : deeds.Yes). u.tid) (e ∙ sym r)) (ap (λ (u : deeds.Yes). u.node) (e ∙ sym r))
no_two x (z ∷ ys) (suc j) y e a h = no_two x ys j y e a.1 h

once_at : (L : List (Yes Cell)) → Pairs (λ (y z : Yes Cell). y.tid ≡ z.tid → y.place ≡ z.place → ⊥) L → (i j : ℕ) (y : deeds.Yes) → slice_get (map logged_entry L) i ≡ SomeOf y → slice_get (map logged_entry L) j ≡ SomeOf y → i ≡ j
once_at [] p i j y a b = absurd (let z : ◌≡◌ {A = ℕ} 0 1 = cc in omega arith)
once_at (x ∷ L) p zero zero y a b = refl
once_at (x ∷ L) p zero (suc j) y a b = let r : logged_entry x ≡ y = cc in absurd (no_two x L j y r p.0 b)
once_at (x ∷ L) p (suc i) zero y a b = let r : logged_entry x ≡ y = cc in absurd (no_two x L i y r p.0 a)
once_at (x ∷ L) p (suc i) (suc j) y a b = ap suc (once_at L p.1 i j y a b)

module _ (h : History) (good : is_well_made h.beginning ≡ true) (faithful : Faithful h) where
  abbrev made : List Stores
  made = h.beginning

  abbrev es : List Event
  es = h.events

  abbrev items : ℕ → List Item
  items = items_of h

  abbrev within : (n : ℕ) → Within (sizes_of made) (length made) (items n)
  within = within_of made good es faithful.fed faithful.answered

  abbrev r : Reached items (sizes_of made) (length made) within made es
  r = reached made good es faithful.fed faithful.answered

  abbrev S : State Cell
  S = moment items (sizes_of made) (length made) within made es r

  -- ## Agreement

  pub finished_alike : (k l p q tid : ℕ) (a b : Bool) → FinishedAt (ago k h) p tid a → FinishedAt (ago l h) q tid b → a ≡ b
  finished_alike k l p q tid a b x y =
      sym x.so
      ∙ finished_alike_lem items (sizes_of made) (length made) within made (beginning made good es faithful.fed faithful.answered) es faithful.fed (booked_all made good es faithful.fed faithful.answered)
      k l p q x.place y.place x.entry y.entry x.outcome y.outcome x.stands x.noted y.stands y.noted (x.about ∙ sym y.about)
      ∙ y.so

  -- ## Serial comparisons

  pub sized : Sized (sizes_of made) (length made) (memories_made h)
  sized = record { number = length-map made (λ (s : Stores). s.cells); each = λ q. refl }

  pub order_same : serial_order h ≡ serial_run (item_book items) r.past.log
  order_same = ap (turns items) (sym r.log) ∙ turns_same items r.past.log

  pub made_same : S.past.made ≡ made_cells items (sizes_of made) (length made) (memories_made h) sized
  unfolding cluster_seen
  made_same = reached_made made good es faithful.fed faithful.answered

  pub compares_true : (tid : ℕ) (t : Turn) → serial_turn h tid ≡ SomeOf t → t.compared ≡ true
  unfolding cluster_seen
  compares_true tid t e =
      turn_compared items (sizes_of made) (length made) (memories_made h) sized S r.sound.invariant made_same (serial_run (item_book items) r.past.log)
      (all_each _ within (serial_run (item_book items) r.past.log)) (serial_fits (item_book items) S r.sound.invariant (item_book_lawful items)) tid t
      (ap (λ ns. turn_of items (memories_made h) ns tid) (sym order_same) ∙ e)

  pub yes_once : (i j : ℕ) (y : deeds.Yes) → slice_get (yes_entries h) i ≡ SomeOf y → slice_get (yes_entries h) j ≡ SomeOf y → i ≡ j
  unfolding cluster_seen
  yes_once i j y a b = once_at r.past.log r.sound.invariant.agreement.yes_once_lem i j y (ap (λ ys. slice_get ys i) r.log ∙ a) (ap (λ ys. slice_get ys j) r.log ∙ b)
