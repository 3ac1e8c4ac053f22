-- A byte and what follows it are one splice.
use Rattle.std.proofs.Common.{◌≡◌, ℕ, ◌+◌, ◌≤◌, true, cond, List, [], ◌∷◌, length, sym, ap, ◌∙◌, arith}
use Rattle.model.specs.Bytes.{splice, placed}
use Rattle.model.specs.ItemFormat.{encode_list, is_list}
use Rattle.model.specs.Messages.{Body as PlainBody, prepare, voted}
use Rattle.model.specs.MessageFormat.{encode_body, is_body}
use Rattle.model.specs.Votes.{vote_number}
use Rattle.model.proofs.Splices.{placed_more}
use Rattle.records.specs.Cursor.{items_meaning}
use Rattle.messages.specs.Meaning.{body_meaning}
use Rattle.messages.proofs.writer.put_body.Goals as goal

-- the room that a body of some form leaves
room :
    (buffer : List ℕ) (b b' : PlainBody) →
    b ≡ b' → 12 + length (encode_body b) ≤ length buffer → 12 + length (encode_body b') ≤ length buffer
room buffer b b' e h = omega (arith, ap (λ x. length (encode_body x)) e)

pub returns-in-Prepare : goal.returns-in-Prepare
returns-in-Prepare c =
    let is = items_meaning c.in-Prepare.items
    in let buffer = c.args.buffer.now
    in let first : List ℕ = c.in-Prepare.participants ∷ []
    in let form : body_meaning c.args.body.now ≡ prepare c.in-Prepare.participants is = ap body_meaning c.in-Prepare.is
    in let good : is_list is ≡ true = sym (ap is_body form) ∙ c.requires.body_value
    in let fits : 12 + (1 + length (encode_list is)) ≤ length buffer = omega (arith, room buffer _ _ form c.requires.body_in_bounds)
    in c.put_list.ensures ∙
    ap (λ b. cond b (placed c.put.new.buffer 13 (encode_list is)) c.put.new.buffer) good ∙
    ap (λ b. placed b 13 (encode_list is)) c.put.ensures ∙
    placed_more buffer 12 first (encode_list is) fits ∙ ap (λ b. splice buffer 12 (encode_body b)) (sym form)

pub returns-in-Vote : goal.returns-in-Vote
returns-in-Vote c =
    let buffer = c.args.buffer.now
    in let reads = c.in-Vote.reads.now
    in let first : List ℕ = vote_number c.in-Vote.vote ∷ []
    in let form : body_meaning c.args.body.now ≡ voted c.in-Vote.vote reads = ap body_meaning c.in-Vote.is
    in let fits : 12 + (1 + length reads) ≤ length buffer = omega (arith, room buffer _ _ form c.requires.body_in_bounds)
    in c.put-in-Vote-2.ensures ∙
    ap (λ b. placed b 13 reads) (c.put-in-Vote.ensures ∙ ap (λ n. placed buffer 12 (n ∷ [])) c.from.ensures) ∙
    placed_more buffer 12 first reads fits ∙ ap (λ b. splice buffer 12 (encode_body b)) (sym form)
