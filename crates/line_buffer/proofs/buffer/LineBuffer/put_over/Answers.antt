use Rattle.std.proofs.Common.{◌≡◌, ℕ, ◌/◌, true, false, length, is_ok, vec_items, ap, ◌∙◌, arith}
use Rattle.std.specs.List.{remove}
use Rattle.std.proofs.lemmas.List.{length-map}
use Rattle.std.proofs.lemmas.Bool.{or_parts, ltb-false, cond-true, le-leb}
use Rattle.model.specs.Memory.{splice}
use Rattle.line_buffer.specs.declared.lines.HeldLines.{HeldLines}
use Rattle.line_buffer.specs.Lines.{numbers_with, line_bytes, most_lines, line_number, numbers, member, held_at, written, takes}
use Rattle.line_buffer.proofs.Put.{put_over, put_through, room_made}
use Rattle.line_buffer.proofs.buffer.LineBuffer.put_over.Goals as goal

eight_lines : (held : HeldLines) (q : ℕ) → takes (numbers (vec_items held.lines)) q ≡ false → (member q (numbers (vec_items held.lines)) ≡ false) × (length (vec_items held.lines) ≡ most_lines)
eight_lines held q t =
    let p = or_parts (member q (numbers (vec_items held.lines))) _ t in
    (p.0, omega (arith, ltb-false _ _ p.1, length-map (vec_items held.lines) line_number, held.few, held.lines.ok.0))

pub hold-requires : goal.hold-requires
hold-requires g c =
    let held = c.args.self.now.held in
    let ls = vec_items held.lines in
    let p = c.args.piece in
    let e = eight_lines held (p.at / line_bytes) c.requires.full in
    ap (λ xs. takes (numbers xs) (p.at / line_bytes)) c.evict.ensures.lines
    ∙ room_made ls (g.M.Memory.bytes c.args.self.now.below) p.at p.bytes.now p.inside c.in-Some.i held.distinct c.in-Some.ensures.0 e.0 e.1

pub returns-in-Some-clause-back : goal.returns-in-Some-clause-back
returns-in-Some-clause-back g c =
    let held = c.args.self.now.held in
    let ls = vec_items held.lines in
    let xs = g.M.Memory.bytes c.args.self.now.below in
    let a = c.args.piece.at in
    let ys = c.args.piece.bytes.now in
    let i = c.in-Some.i in
    let ls' = vec_items c.hold.new.self.lines in
    let p = eight_lines held (a / line_bytes) c.requires.full in
    let e = c.evict.ensures.lines in
    let h : (k : ℕ) → held_at ls' k ≡ written (held_at (remove ls i)) a ys k =
    λ k. c.hold.ensures.held k ∙ ap (λ zs. written (held_at zs) a ys k) e in
    let n : numbers ls' ≡ numbers_with (numbers (remove ls i)) (a / line_bytes) =
    c.hold.ensures.numbers ∙ ap (λ zs. numbers_with (numbers zs) (a / line_bytes)) e in
    put_over ls xs a ys c.args.piece.inside i held.distinct c.in-Some.ensures.0 p.0 p.1 c.args.last (rw c.number.ensures at c.in-Some.ensures.1) (g.M.Memory.bytes c.evict.new.self.below) ls' c.evict.ensures.bytes h n

pub returns-in-None-clause-back : goal.returns-in-None-clause-back
returns-in-None-clause-back g c =
    let held = c.args.self.now.held in
    let ls = vec_items held.lines in
    let xs = g.M.Memory.bytes c.args.self.now.below in
    let a = c.args.piece.at in
    let ys = c.args.piece.bytes.now in
    let p = eight_lines held (a / line_bytes) c.requires.full in
    let done : is_ok c.write.result ≡ true = ap is_ok (c.write.ensures.answer ∙ cond-true _ _ _ (le-leb _ _ c.requires.range)) in
    let b : g.M.Memory.bytes c.write.new.self ≡ splice xs a ys = c.write.ensures.bytes ∙ cond-true _ _ _ done in
    put_through ls xs a ys c.args.piece.inside (g.M.Memory.bytes c.write.new.self) p.0 c.requires.range p.1 b c.args.last
