-- What a cursor over items stands for: the items that are still to come.
use Rattle.std.specs.Prelude.{◌≡◌, List, [], ◌∷◌, Ok, Err, Option, Result, MatchOption}
use Rattle.model.specs.Items.{Item as PlainItem}
use Rattle.model.specs.ItemFormat.{take_items}
use Rattle.model.specs.declared.refusal.Refusal.{Refusal}
use Rattle.records.specs.declared.item.Item.{Item}
use Rattle.records.specs.declared.items.Items.{Items}
use Rattle.records.specs.Meaning.{item_meaning}

abbrev pub items_meaning : Items → List PlainItem
items_meaning s = take_items s.left s.bytes.now

-- one step takes the first item off; at the end nothing changes
abbrev pub ItemStep : Items → Option Item → Items → Type 0
ItemStep s r t =
    MatchOption r ((items_meaning s ≡ []) × (t ≡ s)) (λ i. items_meaning s ≡ item_meaning i ∷ items_meaning t)

abbrev pub list_meaning : Result Items Refusal → Result (List PlainItem) Refusal
list_meaning (Ok s) = Ok (items_meaning s)
list_meaning (Err e) = Err e
