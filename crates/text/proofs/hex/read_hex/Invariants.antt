-- What was read and what is left make up the whole.
use Rattle.std.proofs.Common.{◌≡◌, ◌++◌, length, vec_items}
use Rattle.std.specs.Option.{option_map}
use Rattle.text.specs.Hex.{hex_bytes}
use Rattle.text.proofs.hex.read_hex.Given as goal

abbrev pub invariant-loop-rest : goal.invariant-loop-rest
invariant-loop-rest l = option_map (λ more. vec_items l.bytes ++ more) (hex_bytes l.rest) ≡ hex_bytes l.digits

abbrev pub decreases-loop-rest : goal.decreases-loop-rest
decreases-loop-rest l = length l.rest
