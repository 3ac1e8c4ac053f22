-- Putting the items that an iterator gives into a buffer, one item after the other.
use Rattle.std.proofs.Common.{◌≡◌, ℕ, ◌+◌, ◌/◌, ◌%◌, ◌≤◌, true, List, ◌∷◌, length, Some, None, Option, sym, refl, ap, ◌∙◌, ap₂, arith}
use Rattle.std.proofs.lemmas.Bool.{and_parts}
use Rattle.std.specs.Iterator.{AlwaysYields}
use Rattle.model.specs.Bytes.{splice}
use Rattle.model.specs.Items.{Item as PlainItem, compare, read, write}
use Rattle.model.specs.ItemFormat.{encode_item, encode_items, is_item, are_items, span}
use Rattle.model.specs.Ranges.{node_of, address_of}
use Rattle.model.proofs.ItemLists.{encode_none, encode_more, encode_more_length, are_more}
use Rattle.model.proofs.Splices.{splice_none, splice_more}
use Rattle.records.specs.declared.item.Item.{Item}
use Rattle.records.specs.Extents.{ItemsFit}
use Rattle.records.specs.Kinds.{kind_number, kind_of, data_of}
use Rattle.records.specs.Meaning.{item_meaning}
use Rattle.records.proofs.Roads.{road_first, road_end}

-- the fields of an item, and its data
pub item_bytes :
    (i : PlainItem) →
    encode_item i ≡ kind_number (kind_of i) ∷ node_of i ∷ (address_of i / 256) ∷ (address_of i % 256) ∷ span i ∷ data_of i
item_bytes (compare n a ds) = refl
item_bytes (read n a l) = refl
item_bytes (write n a ds) = refl

-- what was put and what is left make up the whole
pub record Putting {S : Type 0} (steps : S → Option Item → S → Type 0) (items : S) (buffer : List ℕ) (end : ℕ) (start : List ℕ) (at : ℕ) (all : List PlainItem) : Type 0 where
  pub left : List PlainItem
  pub yields : AlwaysYields steps item_meaning items left
  pub bytes : splice buffer end (encode_items left) ≡ splice start at (encode_items all)

module _ {S : Type 0} (steps : S → Option Item → S → Type 0) where
  -- the next item has a form, and room
  pub fit_first :
      (s t : S) (x : Item) (at : ℕ) (buffer : List ℕ) →
      steps s (Some x) t →
      ItemsFit steps s at buffer →
      (is_item (item_meaning x) ≡ true) × (at + length (encode_item (item_meaning x)) ≤ length buffer)
  fit_first s t x at buffer e f =
      let n = road_first steps item_meaning s t x f.listed f.yields e
      in let i = item_meaning x
      in let l : length (encode_items f.listed) ≡ length (encode_item i) + length (encode_items n.rest) = ap (λ xs. length (encode_items xs)) n.same ∙ encode_more_length i n.rest
      in ((and_parts (is_item i) (are_items n.rest) (sym (are_more i n.rest) ∙ sym (ap are_items n.same) ∙ f.forms)).0, omega (arith, l, f.room))

  -- so have those behind it
  pub fit_rest :
      (s t : S) (x : Item) (at next : ℕ) (buffer after : List ℕ) →
      steps s (Some x) t →
      next ≡ at + length (encode_item (item_meaning x)) →
      length after ≡ length buffer →
      ItemsFit steps s at buffer →
      ItemsFit steps t next after
  fit_rest s t x at next buffer after e behind long f =
      let n = road_first steps item_meaning s t x f.listed f.yields e
      in let i = item_meaning x
      in let l : length (encode_items f.listed) ≡ length (encode_item i) + length (encode_items n.rest) = ap (λ xs. length (encode_items xs)) n.same ∙ encode_more_length i n.rest
      in record {
        listed = n.rest;
        yields = n.yields;
        forms = (and_parts (is_item i) (are_items n.rest) (sym (are_more i n.rest) ∙ sym (ap are_items n.same) ∙ f.forms)).1;
        room = omega (arith, l, f.room, behind, long);
      }

  pub putting_more :
      (s t : S) (x : Item) (buffer next start : List ℕ) (end n at : ℕ) (all : List PlainItem) →
      steps s (Some x) t →
      end ≤ length buffer →
      n ≡ end + length (encode_item (item_meaning x)) →
      next ≡ splice buffer end (encode_item (item_meaning x)) →
      Putting steps s buffer end start at all →
      Putting steps t next n start at all
  putting_more s t x buffer next start end n at all e fits behind put p =
      let f = road_first steps item_meaning s t x p.left p.yields e
      in let i = item_meaning x
      in record {
        left = f.rest;
        yields = f.yields;
        bytes =
            ap₂ (λ b k. splice b k (encode_items f.rest)) put behind ∙
            splice_more buffer end (encode_item i) (encode_items f.rest) fits ∙
            ap (splice buffer end) (sym (encode_more i f.rest) ∙ sym (ap encode_items f.same)) ∙ p.bytes;
      }

  pub putting_all :
      (s t : S) (buffer start : List ℕ) (end at : ℕ) (all : List PlainItem) →
      steps s None t →
      Putting steps s buffer end start at all →
      buffer ≡ splice start at (encode_items all)
  putting_all s t buffer start end at all e p =
      let none = road_end steps item_meaning s t p.left p.yields e
      in sym (splice_none buffer end) ∙ sym (ap (splice buffer end) (ap encode_items none ∙ encode_none)) ∙ p.bytes
