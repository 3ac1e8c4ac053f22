-- What an iterator over items gives, as a list: a cursor, and a slice that is copied.
use Rattle.std.proofs.Common.{◌≡◌, List, [], ◌∷◌, map, length, Some, None, Option, Iter, refl, ap, ◌∙◌}
use Rattle.std.specs.Iterator.{AlwaysYields}
use Rattle.std.specs.Iterator.Adapters.{copied_source}
use Rattle.std.specs.Slice.Iter.{iter_rest}
use Rattle.std.specs.declared.iter.Copied.{Copied}
use Rattle.std.proofs.iter.Yields.{copies, fronts}
use Rattle.std.proofs.lemmas.Iterator.{YieldsList, YieldsList-from_slice}
use Rattle.std.proofs.lemmas.Iterator.Consumers.{YieldsList-from_copied, YieldsList-from_shown}
use Rattle.records.specs.Cursor.{items_meaning, ItemStep}
use Rattle.records.specs.Meaning.{item_meaning}
use Rattle.records.specs.declared.item.Item.{Item}
use Rattle.records.specs.declared.items.Items.{Items}

pub cursor_road : (s : Items) → YieldsList ItemStep item_meaning s (items_meaning s)
cursor_road s = YieldsList-from_shown ItemStep item_meaning items_meaning (λ s t e. ap length e.0) (λ s x t e. e) s

-- what each item stands for
mapped : {S A B : Type 0} (steps : S → Option A → S → Type 0) (v : A → B) (s : S) (xs : List A) → AlwaysYields steps (λ x. x) s xs → AlwaysYields steps v s (map v xs)
mapped steps v s [] e = e
mapped steps v s (x ∷ xs) e = (e.0, λ y j h. let n = e.1 y j h in (ap v n.0, mapped steps v j xs n.1))

pub mapped_road :
    {S A B : Type 0} {steps : S → Option A → S → Type 0} {s : S} {xs : List A} (v : A → B) →
    YieldsList steps (λ x. x) s xs → YieldsList steps v s (map v xs)
mapped_road {steps = steps} {s = s} {xs = xs} v e = record { runs = mapped steps v s xs e.runs }

pub copied_road :
    (s : Copied (Iter Item)) (t : Iter Item) (xs : List Item) →
    copied_source s ≡ t → iter_rest t ≡ xs → YieldsList (copies (fronts {A = Item})) item_meaning s (map item_meaning xs)
copied_road s t xs source rest = mapped_road item_meaning (YieldsList-from_copied (YieldsList-from_slice xs (ap iter_rest source ∙ rest)))

-- ## A turn of a loop, and its end

-- the first item and those behind it
pub record First {S A B : Type 0} (steps : S → Option A → S → Type 0) (v : A → B) (x : A) (t : S) (all : List B) : Type 0 where
  pub rest : List B
  pub same : all ≡ v x ∷ rest
  pub yields : AlwaysYields steps v t rest

pub road_first :
    {S A B : Type 0} (steps : S → Option A → S → Type 0) (v : A → B) (s t : S) (x : A) (all : List B) →
    AlwaysYields steps v s all → steps s (Some x) t → First steps v x t all
road_first steps v s t x [] y e = absurd (y x t e)
road_first steps v s t x (b ∷ rest) y e = let n = y.1 x t e in record { rest = rest; same = cc; yields = n.1 }

pub road_end :
    {S A B : Type 0} (steps : S → Option A → S → Type 0) (v : A → B) (s t : S) (all : List B) →
    AlwaysYields steps v s all → steps s None t → all ≡ []
road_end steps v s t [] y e = refl
road_end steps v s t (b ∷ rest) y e = absurd (y.0 t e)
