-- The loop follows the steps of reading.
use Rattle.std.proofs.Common.{◌≡◌, ◌∷◌, ◌++◌, drop, None, vec_items, sym, ap, ◌∙◌, ap₂, arith, rules}
use Rattle.std.specs.Option.{option_map}
use Rattle.text.specs.Hex.{hex_bytes, then_byte}
use Rattle.text.proofs.HexSteps.{behind_two, hex_none, hex_odd, hex_step, mapped_more}
use Rattle.text.proofs.hex.read_hex.Goals as goal

pub returns-in_default-hex_pair : goal.returns-in_default-hex_pair
returns-in_default-hex_pair c =
    let rest = c.loop-rest.rest.now
    in let none : hex_bytes rest ≡ None =
    hex_step rest (omega arith) ∙ ap (λ o. then_byte o (hex_bytes (drop 2 rest))) (sym c.in_default-hex_pair.ensures)
    in sym (ap (option_map (λ more. vec_items c.loop-rest.bytes ++ more)) none) ∙ c.loop-rest.invariant

pub loop-rest-preserved : goal.loop-rest-preserved
loop-rest-preserved c =
    let rest = c.loop-rest.rest.now
    in let xs = vec_items c.loop-rest.bytes
    in let b = c.in-Some.byte
    in let step : hex_bytes rest ≡ option_map (λ bs. b ∷ bs) (hex_bytes (drop 2 rest)) =
    hex_step rest (omega arith) ∙ ap (λ o. then_byte o (hex_bytes (drop 2 rest))) (sym c.in-Some.ensures)
    in ap₂ (λ ys ds. option_map (λ more. ys ++ more) (hex_bytes ds)) c.in_ok-push.ensures.items (behind_two rest) ∙
    mapped_more xs b (hex_bytes (drop 2 rest)) ∙ sym (ap (option_map (λ more. xs ++ more)) step) ∙ c.loop-rest.invariant

pub returns : goal.returns
returns c = search (rules, hex_none, hex_odd)
