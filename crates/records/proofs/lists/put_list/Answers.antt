-- The count and the items make up the list.
use Rattle.std.proofs.Common.{◌≡◌, ◌+◌, ◌≤◌, false, cond, leb, [], ◌∷◌, length, sym, refl, ap, ◌∙◌, arith}
use Rattle.std.proofs.lemmas.Bool.{and_parts, leb-true}
use Rattle.model.specs.Bytes.{splice, placed, within}
use Rattle.model.specs.ItemFormat.{encode_items, encode_list, is_list, are_items}
use Rattle.model.proofs.Splices.{splice_more, placed_fits}
use Rattle.records.specs.Cursor.{items_meaning, ItemStep}
use Rattle.records.specs.Extents.{ItemsFit}
use Rattle.records.proofs.Roads.{cursor_road}
use Rattle.records.proofs.Sizing.{extent_formless, extent_sized}
use Rattle.records.proofs.lists.put_list.Goals as goal

pub returns-in_default : goal.returns-in_default
returns-in_default c =
    let is = items_meaning c.args.items
    in let none : is_list is ≡ false = extent_formless is (c.in_default.ensures is (cursor_road c.args.items).runs)
    in sym (ap (λ b. cond b (placed c.args.buffer.now c.args.at (encode_list is)) c.args.buffer.now) none)

pub put_items-requires : goal.put_items-requires
put_items-requires c =
    let is = items_meaning c.args.items
    in let x = extent_sized is c.in-Some.extent (c.in-Some.ensures is (cursor_road c.args.items).runs)
    in let room = leb-true _ _ (sym c.if-fits.ensures)
    in let fit : ItemsFit ItemStep c.args.items (c.args.at + 1) c.put.new.buffer =
    record {
      listed = is;
      yields = (cursor_road c.args.items).runs;
      forms = (and_parts _ (are_items is) x.0).1;
      room = omega (arith, x.2, room);
    }
    in λ k. ((refl, tt), (tt, (tt, fit)))

pub returns-then-fits : goal.returns-then-fits
returns-then-fits c =
    let is = items_meaning c.args.items
    in let buffer = c.args.buffer.now
    in let at = c.args.at
    in let x = extent_sized is c.in-Some.extent (c.in-Some.ensures is (cursor_road c.args.items).runs)
    in let room = leb-true _ _ (sym c.if-fits.ensures)
    in let fits : at + length (encode_list is) ≤ length buffer = omega (arith, x.2, room)
    in let one : at + 1 ≤ length buffer = omega (arith, x.2, room)
    in let count : c.put.new.buffer ≡ splice buffer at (length is ∷ []) =
    c.put.ensures ∙ ap (λ n. placed buffer at (n ∷ [])) x.1 ∙ placed_fits buffer at (length is ∷ []) one
    in let items : c.put_items.new.buffer ≡ splice buffer at (encode_list is) =
    c.put_items.ensures is (cursor_road c.args.items).runs ∙
    ap (λ b. splice b (at + 1) (encode_items is)) count ∙
    splice_more buffer at (length is ∷ []) (encode_items is) (omega (arith, one))
    in items ∙ sym (placed_fits buffer at (encode_list is) fits) ∙
    sym (ap (λ b. cond b (placed buffer at (encode_list is)) buffer) x.0)

pub returns-else-fits : goal.returns-else-fits
returns-else-fits c =
    let is = items_meaning c.args.items
    in let buffer = c.args.buffer.now
    in let at = c.args.at
    in let x = extent_sized is c.in-Some.extent (c.in-Some.ensures is (cursor_road c.args.items).runs)
    in let short : within buffer at (length (encode_list is)) ≡ false = ap (λ n. leb (at + n) (length buffer)) (sym x.2) ∙ sym c.if-fits.ensures
    in sym (ap (λ b. cond b (splice buffer at (encode_list is)) buffer) short) ∙
    sym (ap (λ b. cond b (placed buffer at (encode_list is)) buffer) x.0)
