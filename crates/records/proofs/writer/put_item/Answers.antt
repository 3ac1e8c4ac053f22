-- The fields and the data behind them are one splice.
use Rattle.std.proofs.Common.{rules, ◌≡◌, ℕ, ◌+◌, ◌/◌, ◌%◌, ◌≤◌, List, [], ◌∷◌, length, sym, ap, ◌∙◌, arith}
use Rattle.model.specs.Bytes.{splice, placed}
use Rattle.model.specs.ItemFormat.{span}
use Rattle.model.specs.Ranges.{node_of, address_of}
use Rattle.model.proofs.Splices.{placed_more}
use Rattle.records.specs.Kinds.{kind_number, kind_of, data_of}
use Rattle.records.specs.Meaning.{item_meaning}
use Rattle.records.proofs.Putting.{item_bytes}
use Rattle.records.proofs.writer.put_item.Goals as goal

pub returns-clause-bytes : goal.returns-clause-bytes
returns-clause-bytes c =
    let i = item_meaning c.args.item.now
    in let at = c.args.at
    in let buffer = c.args.buffer.now
    in let fields : List ℕ = kind_number (kind_of i) ∷ node_of i ∷ (address_of i / 256) ∷ (address_of i % 256) ∷ span i ∷ []
    in let room : at + (5 + length (data_of i)) ≤ length buffer = omega (arith, ap length (item_bytes i))
    in let first : c.put.new.buffer ≡ placed buffer at fields = search rules
    in let second : c.put-2.new.buffer ≡ placed (placed buffer at fields) (at + 5) (data_of i) = search rules
    in second ∙ placed_more buffer at fields (data_of i) room ∙ ap (splice buffer at) (sym (item_bytes i))
