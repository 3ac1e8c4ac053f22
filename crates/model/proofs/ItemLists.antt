-- Item lists taken apart at their first item.
use Rattle.std.proofs.Common.{◌≡◌, ◌+◌, ◌≤◌, true, ◌&&◌, leb, List, [], ◌∷◌, ◌++◌, length, refl, ap, ◌∙◌, arith, length-append}
use Rattle.std.proofs.lemmas.Bool.{and_parts, leb-true}
use Rattle.model.specs.Items.{Item, compare, read, write}
use Rattle.model.specs.ItemFormat.{encode_item, encode_items, is_item, are_items}

pub encode_none : encode_items [] ≡ []
unfolding encode_items
encode_none = refl

pub encode_more : (i : Item) (is : List Item) → encode_items (i ∷ is) ≡ encode_item i ++ encode_items is
unfolding encode_items
encode_more i is = refl

pub encode_more_length :
    (i : Item) (is : List Item) → length (encode_items (i ∷ is)) ≡ length (encode_item i) + length (encode_items is)
encode_more_length i is = ap length (encode_more i is) ∙ length-append (encode_item i) (encode_items is)

pub are_none : are_items [] ≡ true
unfolding are_items
are_none = refl

pub are_more : (i : Item) (is : List Item) → are_items (i ∷ is) ≡ (is_item i && are_items is)
unfolding are_items
are_more i is = refl

-- the longest item has five bytes of fields and sixteen of data
pub encode_bound : (i : Item) → is_item i ≡ true → length (encode_item i) ≤ 21
encode_bound (compare n a ds) h = omega (arith, leb-true _ _ (and_parts (leb 1 (length ds)) (leb (length ds) 16) h).1)
encode_bound (read n a l) h = omega arith
encode_bound (write n a ds) h = omega (arith, leb-true _ _ (and_parts (leb 1 (length ds)) (leb (length ds) 16) h).1)
