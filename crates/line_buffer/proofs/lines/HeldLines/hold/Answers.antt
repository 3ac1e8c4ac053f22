use Rattle.std.proofs.Common.{◌≡◌, ℕ, ◌/◌, ◌<◌, true, false, List, length, vec_items, sym, ap, ◌∙◌, ⊎_elim, arith}
use Rattle.std.proofs.lemmas.List.{length-map}
use Rattle.std.proofs.lemmas.Bool.{or_cases, both_ways, ltb-true}
use Rattle.line_buffer.specs.Lines.{line_bytes, most_lines, line_number, numbers, member, held_at, takes}
use Rattle.line_buffer.specs.declared.line.Line.{Line}
use Rattle.line_buffer.proofs.Distinct.{apart_added}
use Rattle.line_buffer.proofs.Held.{get_or_numbers}
use Rattle.line_buffer.proofs.Hold.{held_at_found, numbers_found, held_at_fresh, numbers_fresh}
use Rattle.line_buffer.proofs.lines.HeldLines.hold.Goals as goal

few_lines : (ls : List Line) (q : ℕ) → takes (numbers ls) q ≡ true → member q (numbers ls) ≡ false → length ls < most_lines
few_lines ls q t o =
    let few : length (numbers ls) < most_lines =
    ⊎_elim (λ t. absurd (both_ways _ o t)) (λ t. ltb-true _ _ t) (or_cases (member q (numbers ls)) _ t) in
    omega (arith, length-map ls line_number)

pub push_reserved-requires : goal.push_reserved-requires
push_reserved-requires c =
    let ls = vec_items c.args.self.now.lines in
    let q = c.args.piece.at / line_bytes in
    let o : member q (numbers ls) ≡ false = ap (λ n. member n (numbers ls)) (sym c.number-number.ensures) ∙ c.in-None.ensures in
    omega (arith, few_lines ls q c.requires o, c.args.self.now.lines.ok.0, c.args.self.now.reserved)

pub invariant_of-self-clause-distinct : goal.invariant_of-self-clause-distinct
invariant_of-self-clause-distinct c =
    let f = c.in-Some.ensures in
    let ls = vec_items c.args.self.now.lines in
    let q = sym (get_or_numbers ls c.in-Some.i c.index.result.now f.0 c.index.ensures) ∙ f.1 ∙ c.number-number.ensures in
    apart_added (numbers ls) _ (c.args.piece.at / line_bytes) c.args.self.now.distinct
    (numbers_found ls c.args.piece.at c.args.piece.bytes.now c.args.piece.inside c.in-Some.i c.index.result.now c.with.result f.0 c.index.ensures q c.with.ensures.number)

pub invariant_of-self-in-None-clause-distinct : goal.invariant_of-self-in-None-clause-distinct
invariant_of-self-in-None-clause-distinct c =
    let ls = vec_items c.args.self.now.lines in
    let o : member (c.args.piece.at / line_bytes) (numbers ls) ≡ false = ap (λ n. member n (numbers ls)) (sym c.number-number.ensures) ∙ c.in-None.ensures in
    apart_added (numbers ls) _ (c.args.piece.at / line_bytes) c.args.self.now.distinct
    (ap numbers c.push_reserved.ensures.items
    ∙ numbers_fresh ls c.args.piece.at c.args.piece.bytes.now c.args.piece.inside c.with-in-None.result o (c.with-in-None.ensures.number ∙ c.blank.ensures.number ∙ c.number-number.ensures))

pub returns-in-Some-clause-held : goal.returns-in-Some-clause-held
returns-in-Some-clause-held c =
    let f = c.in-Some.ensures in
    let w = c.with.ensures in
    let ls = vec_items c.args.self.now.lines in
    let a = c.args.piece.at in
    let bs = c.args.piece.bytes.now in
    let l = c.index.result.now in
    let q : l.number ≡ a / line_bytes = sym (get_or_numbers ls c.in-Some.i l f.0 c.index.ensures) ∙ f.1 ∙ c.number-number.ensures in
    held_at_found ls a bs c.args.piece.inside c.in-Some.i l c.with.result c.args.self.now.distinct f.0 c.index.ensures q w.number (rw c.offset.ensures at w.cells) w.width

pub returns-in-Some-clause-numbers : goal.returns-in-Some-clause-numbers
returns-in-Some-clause-numbers c =
    let f = c.in-Some.ensures in
    let ls = vec_items c.args.self.now.lines in
    let l = c.index.result.now in
    let q : l.number ≡ c.args.piece.at / line_bytes = sym (get_or_numbers ls c.in-Some.i l f.0 c.index.ensures) ∙ f.1 ∙ c.number-number.ensures in
    numbers_found ls c.args.piece.at c.args.piece.bytes.now c.args.piece.inside c.in-Some.i l c.with.result f.0 c.index.ensures q c.with.ensures.number

pub returns-in-None-clause-held : goal.returns-in-None-clause-held
returns-in-None-clause-held c k =
    let w = c.with-in-None.ensures in
    let ls = vec_items c.args.self.now.lines in
    let a = c.args.piece.at in
    let o : member (a / line_bytes) (numbers ls) ≡ false = ap (λ n. member n (numbers ls)) (sym c.number-number.ensures) ∙ c.in-None.ensures in
    let n = w.number ∙ c.blank.ensures.number ∙ c.number-number.ensures in
    ap (λ xs. held_at xs k) c.push_reserved.ensures.items
    ∙ held_at_fresh ls a c.args.piece.bytes.now c.args.piece.inside c.with-in-None.result o n (rw (c.blank.ensures.cells, c.offset-in-None.ensures) at w.cells) k
