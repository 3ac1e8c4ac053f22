-- Along a history: from a sound beginning every moment is sound, and each knows what the earlier ones knew.
use Rattle.std.proofs.Common.{◌≡◌, ℕ, zero, suc, List, [], ◌∷◌, map, drop, refl, ap, ◌∙◌}
use Rattle.model.specs.Items.{Item}
use Rattle.model.specs.Cells.{Cell}
use Rattle.model.specs.Writes.{Stores}
use Rattle.model.specs.Deeds.{yes_after}
use Rattle.model.specs.History.{Event, following, deed_after, written_since, yes_log, LeftBy, Fed}
use Rattle.model.proofs.core.State.{Past, State}
use Rattle.model.proofs.core.Facts.{Extends, extends_refl, extends_trans}
use Rattle.model.proofs.bridge.ItemBook.{item_book}
use Rattle.model.proofs.bridge.SerialMemories.{Within, logged_entry}
use Rattle.model.proofs.bridge.Abstraction.{cluster_seen}
use Rattle.model.proofs.bridge.Sound.{Sound}
use Rattle.model.proofs.bridge.Histories.{HasItems, step_steps}

module _ (items : ℕ → List Item) (sizes : ℕ → ℕ) (count : ℕ) (within : (n : ℕ) → Within sizes count (items n)) (made : List Stores) where
  -- a moment of the history
  pub record Reached (es : List Event) : Type 0 where
    pub past : Past Cell
    pub sound : Sound items sizes count past (written_since made es) (following made es)
    pub log : map logged_entry past.log ≡ yes_log made es

  -- how the core sees it
  abbrev pub moment : (es : List Event) → Reached es → State Cell
  moment es r = cluster_seen r.past (written_since made es) (following made es)

  -- the book has the items of everything that is opened
  abbrev pub Booked : List Event → Type 0
  Booked [] = Unit {0}
  Booked (e ∷ es) = HasItems items (following made es) (deed_after made es e.call) × Booked es

  one_more_lem : (e : Event) (es : List Event) (r : Reached es) → LeftBy (following made es) (written_since made es) (deed_after made es e.call) e.left → HasItems items (following made es) (deed_after made es e.call)
      → (t : Reached (e ∷ es)) × ((t.past.made ≡ r.past.made) × Extends (item_book items) (moment es r) (moment (e ∷ es) t))
  unfolding written_since following yes_log
  one_more_lem e es r fed k =
      let a = step_steps items sizes count within r.past (written_since made es) (following made es) r.sound e.call e.left fed k in
      (record { past = a.past; sound = a.sound; log = a.log ∙ ap (yes_after (deed_after made es e.call)) r.log }, (a.made, a.extends))

  module _ (beginning : Reached []) where
    -- every moment
    pub reach : (es : List Event) → Fed made es → Booked es → Reached es
    reach [] fed k = beginning
    reach (e ∷ es) fed k = (one_more_lem e es (reach es fed.1 k.1) fed.0 k.0).0

    pub reach_made : (es : List Event) (fed : Fed made es) (k : Booked es) → (reach es fed k).past.made ≡ beginning.past.made
    unfolding reach
    reach_made [] fed k = refl
    reach_made (e ∷ es) fed k = (one_more_lem e es (reach es fed.1 k.1) fed.0 k.0).1.0 ∙ reach_made es fed.1 k.1

    pub fed_drop : (j : ℕ) (es : List Event) → Fed made es → Fed made (drop j es)
    fed_drop zero es fed = fed
    fed_drop (suc j) [] fed = tt
    fed_drop (suc j) (e ∷ es) fed = fed_drop j es fed.1

    pub booked_drop : (j : ℕ) (es : List Event) → Booked es → Booked (drop j es)
    booked_drop zero es k = k
    booked_drop (suc j) [] k = tt
    booked_drop (suc j) (e ∷ es) k = booked_drop j es k.1

    -- what was known some calls ago is known now
    pub knows_more : (j : ℕ) (es : List Event) (fed : Fed made es) (k : Booked es)
        → Extends (item_book items) (moment (drop j es) (reach (drop j es) (fed_drop j es fed) (booked_drop j es k))) (moment es (reach es fed k))
    unfolding reach fed_drop booked_drop
    knows_more zero es fed k = extends_refl (item_book items) _
    knows_more (suc j) [] fed k = extends_refl (item_book items) _
    knows_more (suc j) (e ∷ es) fed k =
        extends_trans (item_book items) _ _ _ (knows_more j es fed.1 k.1) (one_more_lem e es (reach es fed.1 k.1) fed.0 k.0).1.1
