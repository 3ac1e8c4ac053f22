-- Writing a message: the size of its body, and of the whole.
use Rattle.std.proofs.Common.{◌≡◌, ℕ, ◌+◌, ◌≤◌, Bool, true, false, cond, List, ◌∷◌, ◌++◌, length, Some, None, refl, ap₂, arith}
use Rattle.std.proofs.lemmas.Bool.Decides.{nat_tests}
use Rattle.model.specs.ItemFormat.{be16}
use Rattle.model.specs.Requests.{version}
use Rattle.model.specs.Messages.{Body as PlainBody, Message as PlainMessage, prepare, voted, finish, inquiry, reply, query, settled}
use Rattle.model.specs.MessageFormat.{encode_body, encode_header, encode_message, encode_party, is_body, kind_of}
use Rattle.model.proofs.RequestLaws.{list_bound}

pub body_sized :
    (b : PlainBody) (n : ℕ) →
    Some n ≡ cond (is_body b) (Some (length (encode_body b))) None →
    (is_body b ≡ true) × (n ≡ length (encode_body b))
body_sized b n e = go (is_body b) e
  where
    go : (t : Bool) → Some n ≡ cond t (Some (length (encode_body b))) None → (t ≡ true) × (n ≡ length (encode_body b))
    go true e = (refl, cc)
    go false e = let z : ◌≡◌ {A = ℕ} 0 1 = cc in absurd (omega arith)

-- the longest body is a prepare's
pub body_bound : (b : PlainBody) → is_body b ≡ true → length (encode_body b) ≤ 170
body_bound (prepare ps is) h = omega (arith, list_bound is h)
body_bound (voted v bs) h = grind (arith, nat_tests)
body_bound (finish b) h = omega arith
body_bound inquiry h = omega arith
body_bound (reply b) h = omega arith
body_bound query h = omega arith
body_bound settled h = omega arith

pub message_length : (m : PlainMessage) → length (encode_message m) ≡ 12 + length (encode_body m.body)
unfolding encode_message
message_length m = omega arith

-- the bytes before the body
abbrev pub head_of : ℕ → ℕ → PlainMessage → List ℕ
head_of length kind m =
    be16 length ++ (version ∷ kind ∷ ((be16 m.tid ++ encode_party m.tid m.sender) ++ encode_party m.tid m.receiver))

pub message_parts :
    (m : PlainMessage) (n k : ℕ) →
    n ≡ length (encode_body m.body) →
    k ≡ kind_of m.body →
    head_of (10 + n) k m ++ encode_body m.body ≡ encode_message m
unfolding encode_message
message_parts m n k size kind =
    let whole : 10 + n ≡ 1 + length (encode_header m ++ encode_body m.body) = omega (arith, size)
    in ap₂ (λ l j. head_of l j m ++ encode_body m.body) whole kind
