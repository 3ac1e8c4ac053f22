-- Adding up the size of an item list, one item after the other.
use Rattle.std.proofs.Common.{◌≡◌, ℕ, ◌+◌, ◌<◌, ◌≤◌, Bool, true, false, cond, ◌&&◌, ◌⊎◌, List, [], ◌∷◌, map, length, Some, None, Option, Ok, Err, Iter, sym, refl, ap, ◌∙◌, ap₂, inl, inr, arith}
use Rattle.std.proofs.lemmas.Bool.Decides.{nat_tests}
use Rattle.std.specs.Iterator.{AlwaysYields}
use Rattle.std.specs.Iterator.Adapters.{copied_source}
use Rattle.std.specs.Slice.Iter.{iter_rest}
use Rattle.std.specs.declared.iter.Copied.{Copied}
use Rattle.std.proofs.iter.Yields.{copies, fronts}
use Rattle.std.specs.Option.{option_map, ok_or}
use Rattle.model.specs.declared.refusal.Refusal.{Refusal}
use Rattle.model.specs.declared.refusal.Refusal.TheVariants.{Malformed}
use Rattle.model.specs.Items.{Item as PlainItem}
use Rattle.model.specs.ItemFormat.{encode_item, encode_items, encode_list, is_item, are_items, is_list, list_size}
use Rattle.model.proofs.ItemLists.{encode_none, encode_more_length, are_none, are_more, encode_bound}
use Rattle.records.specs.declared.item.Item.{Item}
use Rattle.records.specs.declared.lists.Extent.{Extent}
use Rattle.records.specs.Extents.{list_extent}
use Rattle.records.specs.Meaning.{item_meaning}
use Rattle.records.proofs.Readers.{some_from_ok, none_from_err}
use Rattle.records.proofs.Roads.{copied_road, road_first, road_end}

-- ## The size so far and what is left make up the whole

abbrev pub Sizing : ℕ → List PlainItem → List PlainItem → Type 0
Sizing size left all = (size + length (encode_items left) ≡ 1 + length (encode_items all)) × (are_items left ≡ are_items all)

abbrev pub item_size : PlainItem → Option ℕ
item_size i = cond (is_item i) (Some (length (encode_item i))) None

pub item_sized : (i : PlainItem) (n : ℕ) → Some n ≡ item_size i → (is_item i ≡ true) × (n ≡ length (encode_item i))
item_sized i n e = go (is_item i) e
  where
    go : (b : Bool) → Some n ≡ cond b (Some (length (encode_item i))) None → (b ≡ true) × (n ≡ length (encode_item i))
    go true e = (refl, cc)
    go false e = let z : ◌≡◌ {A = ℕ} 0 1 = cc in absurd (omega arith)

pub item_unsized : (i : PlainItem) → None ≡ item_size i → is_item i ≡ false
item_unsized i e = go (is_item i) e
  where
    go : (b : Bool) → ◌≡◌ {A = Option ℕ} None (cond b (Some (length (encode_item i))) None) → b ≡ false
    go true e = cc
    go false e = refl

pub size_bound : (i : PlainItem) (n : ℕ) → Some n ≡ item_size i → n ≤ 21
size_bound i n e = let s = item_sized i n e in omega (arith, encode_bound i s.0, s.1)

pub sizing_more :
    (size n : ℕ) (i : PlainItem) (left rest all : List PlainItem) →
    left ≡ i ∷ rest →
    Some n ≡ item_size i →
    Sizing size left all →
    Sizing (size + n) rest all
sizing_more size n i left rest all first e (sum, form) =
    let s = item_sized i n e
    in let l : length (encode_items left) ≡ length (encode_item i) + length (encode_items rest) = ap (λ xs. length (encode_items xs)) first ∙ encode_more_length i rest
    in (omega (arith, s.1, l, sum), sym (ap (λ b. b && are_items rest) s.0) ∙ sym (are_more i rest) ∙ sym (ap are_items first) ∙ form)

-- ## What the size is in the end

pub sizing_stuck :
    (size : ℕ) (i : PlainItem) (left rest all : List PlainItem) →
    left ≡ i ∷ rest →
    None ≡ item_size i →
    Sizing size left all →
    None ≡ list_size all
sizing_stuck size i left rest all first e (sum, form) =
    let bad : are_items all ≡ false = sym form ∙ ap are_items first ∙ are_more i rest ∙ ap (λ b. b && are_items rest) (item_unsized i e)
    in grind (arith, nat_tests)

pub sizing_all :
    (size : ℕ) (left all : List PlainItem) →
    left ≡ [] →
    1 ≤ length all →
    length all ≤ 8 →
    Sizing size left all →
    Some size ≡ list_size all
sizing_all size left all none some few (sum, form) =
    let good : are_items all ≡ true = sym form ∙ ap are_items none ∙ are_none
    in let l : length (encode_items left) ≡ 0 = ap (λ xs. length (encode_items xs)) none ∙ ap length encode_none
    in let n : size ≡ 1 + length (encode_items all) = omega (arith, l, sum)
    in grind (arith, nat_tests)

pub size_none : (all : List PlainItem) → (length all < 1) ⊎ (8 < length all) → None ≡ list_size all
size_none all (inl h) = grind (arith, nat_tests)
size_none all (inr h) = grind (arith, nat_tests)

-- ## The size with the count

pub extent_size : (all : List PlainItem) → option_map (λ (x : Extent). x.size) (list_extent all) ≡ list_size all
extent_size all = go (is_list all)
  where
    go :
        (b : Bool) →
        ◌≡◌ {A = Option ℕ} (option_map (λ (x : Extent). x.size) (cond b (Some (record { count = length all; size = length (encode_list all) })) None))
        (cond b (Some (length (encode_list all))) None)
    go true = refl
    go false = refl

pub extent_none : (all : List PlainItem) → None ≡ list_size all → None ≡ list_extent all
extent_none all e = grind (arith, nat_tests)

pub extent_some :
    (all : List PlainItem) (n size : ℕ) →
    n ≡ length all →
    Some size ≡ list_size all →
    Some (record { count = n; size = size }) ≡ list_extent all
extent_some all n size count e = go (is_list all) e
  where
    go :
        (b : Bool) →
        Some size ≡ cond b (Some (length (encode_list all))) None →
        ◌≡◌ {A = Option Extent} (Some (record { count = n; size = size })) (cond b (Some (record { count = length all; size = length (encode_list all) })) None)
    go true e = let s : size ≡ length (encode_list all) = cc in ap₂ (λ k m. Some (record { count = k; size = m })) count s
    go false e = cc

pub extent_formless : (all : List PlainItem) → None ≡ list_extent all → is_list all ≡ false
extent_formless all e = go (is_list all) e
  where
    go :
        (b : Bool) →
        ◌≡◌ {A = Option Extent} None (cond b (Some (record { count = length all; size = length (encode_list all) })) None) → b ≡ false
    go true e = cc
    go false e = refl

pub extent_sized :
    (all : List PlainItem) (x : Extent) →
    Some x ≡ list_extent all →
    (is_list all ≡ true) × (x.count ≡ length all) × (x.size ≡ length (encode_list all))
extent_sized all x e = go (is_list all) e
  where
    go :
        (b : Bool) →
        ◌≡◌ {A = Option Extent} (Some x) (cond b (Some (record { count = length all; size = length (encode_list all) })) None) →
        (b ≡ true) × (x.count ≡ length all) × (x.size ≡ length (encode_list all))
    go true e = (refl, cc, cc)
    go false e = let z : ◌≡◌ {A = ℕ} 0 1 = cc in absurd (omega arith)

-- ## What a writer does with the extent

pub extent_kept :
    (all : List PlainItem) (o : Option Extent) (x : Extent) →
    o ≡ list_extent all →
    Ok x ≡ ok_or o Malformed →
    (is_list all ≡ true) × (x.count ≡ length all) × (x.size ≡ length (encode_list all))
extent_kept all o x e k = extent_sized all x (some_from_ok x o Malformed k ∙ e)

pub extent_refused :
    (all : List PlainItem) (o : Option Extent) (why : Refusal) →
    o ≡ list_extent all →
    Err why ≡ ok_or o Malformed →
    (is_list all ≡ false) × (why ≡ Malformed)
extent_refused all o why e k = let none = none_from_err o why Malformed k in (extent_formless all (none.0 ∙ e), none.1)

-- the same of the extent of a slice
pub slice_kept :
    (s : Copied (Iter Item)) (t : Iter Item) (xs : List Item) (o : Option Extent) (x : Extent) →
    copied_source s ≡ t →
    iter_rest t ≡ xs →
    ((is : List PlainItem) → AlwaysYields (copies (fronts {A = Item})) item_meaning s is → o ≡ list_extent is) →
    Ok x ≡ ok_or o Malformed →
    (is_list (map item_meaning xs) ≡ true) × (x.count ≡ length (map item_meaning xs)) × (x.size ≡ length (encode_list (map item_meaning xs)))
slice_kept s t xs o x source rest e k =
    extent_kept (map item_meaning xs) o x (e (map item_meaning xs) (copied_road s t xs source rest).runs) k

-- ## The items that an iterator gives

-- what was counted and added up and what is left make up the whole
pub record Counting {S : Type 0} (steps : S → Option Item → S → Type 0) (items : S) (count size : ℕ) (all : List PlainItem) : Type 0 where
  pub left : List PlainItem
  pub yields : AlwaysYields steps item_meaning items left
  pub number : count + length left ≡ length all
  pub sizing : Sizing size left all

module _ {S : Type 0} (steps : S → Option Item → S → Type 0) where
  pub counting_more :
      (s t : S) (x : Item) (count size n : ℕ) (all : List PlainItem) →
      steps s (Some x) t →
      Some n ≡ item_size (item_meaning x) →
      Counting steps s count size all →
      Counting steps t (count + 1) (size + n) all
  counting_more s t x count size n all e sized k =
      let f = road_first steps item_meaning s t x k.left k.yields e
      in record {
        left = f.rest;
        yields = f.yields;
        number = omega (arith, k.number, ap length f.same);
        sizing = sizing_more size n (item_meaning x) k.left f.rest all f.same sized k.sizing;
      }

  -- an item without a size has no list
  pub counting_stuck :
      (s t : S) (x : Item) (count size : ℕ) (all : List PlainItem) →
      steps s (Some x) t →
      None ≡ item_size (item_meaning x) →
      Counting steps s count size all →
      None ≡ list_extent all
  counting_stuck s t x count size all e unsized k =
      let f = road_first steps item_meaning s t x k.left k.yields e
      in extent_none all (sizing_stuck size (item_meaning x) k.left f.rest all f.same unsized k.sizing)

  pub counting_empty :
      (s t : S) (count size : ℕ) (all : List PlainItem) →
      steps s None t →
      count ≡ 0 →
      Counting steps s count size all →
      None ≡ list_extent all
  counting_empty s t count size all e none k =
      let f = road_end steps item_meaning s t k.left k.yields e
      in extent_none all (size_none all (inl (omega (arith, k.number, ap length f, none))))

  pub counting_all :
      (s t : S) (count size : ℕ) (all : List PlainItem) →
      steps s None t →
      1 ≤ count →
      count ≤ 8 →
      Counting steps s count size all →
      Some (record { count = count; size = size }) ≡ list_extent all
  counting_all s t count size all e some few k =
      let f = road_end steps item_meaning s t k.left k.yields e
      in let n = ap length f
      in extent_some all count size (omega (arith, k.number, n))
      (sizing_all size k.left all f (omega (arith, k.number, n, some)) (omega (arith, k.number, n, few)) k.sizing)
