-- Reading a message: its record, its header, its body.
use Rattle.std.proofs.Common.{◌≡◌, ℕ, ◌<◌, ◌≤◌, true, false, ◌&&◌, ltb, leb, ◌⊎◌, List, length, get_or, drop, Some, None, Option, sym, refl, ap, ◌∙◌, inl, inr, arith}
use Rattle.std.proofs.lemmas.Bool.{and_parts, and_from, leb-true, le-leb, le-ltb, lt-ltb, cases_lt, cond-true, cond-false, cond_both}
use Rattle.std.proofs.lemmas.Bool.Decides.{nat_tests}
use Rattle.model.specs.declared.party.Party.{Party}
use Rattle.model.specs.Messages.{Body as PlainBody, Message as PlainMessage}
use Rattle.model.specs.Requests.{is_record}
use Rattle.model.specs.MessageFormat.{decode_message, decode_body, then_message, number_at, party_at, tid_at, sender_at, receiver_at, kind_at, body_at}
use Rattle.messages.specs.declared.message.Header.{Header}
use Rattle.messages.specs.Headers.{header_of, then_header}

abbrev pub message_of : Header → PlainBody → PlainMessage
message_of h b = record { tid = h.tid; sender = h.sender; receiver = h.receiver; body = b }

pub read_other : (bs : List ℕ) → is_record bs ≡ false → decode_message bs ≡ None
unfolding decode_message
read_other bs e = grind (arith, nat_tests)

-- a header and a body make the message; where either is missing there is none
whole :
    (tid : ℕ) (s r : Option Party) (h : Header) (o : Option PlainBody) (b : PlainBody) →
    Some h ≡ then_header tid s r →
    o ≡ Some b →
    then_message tid s r o ≡ Some (message_of h b)
whole tid None r h o b e f = cc
whole tid (Some s) None h o b e f = cc
whole tid (Some s) (Some r) h None b e f = cc
whole tid (Some s) (Some r) h (Some c) b e f = cc

headless :
    (tid : ℕ) (s r : Option Party) (o : Option PlainBody) → None ≡ then_header tid s r → then_message tid s r o ≡ None
headless tid None r o e = refl
headless tid (Some s) None o e = refl
headless tid (Some s) (Some r) o e = cc

bodiless : (tid : ℕ) (s r : Option Party) → then_message tid s r None ≡ None
bodiless tid None r = refl
bodiless tid (Some s) None = refl
bodiless tid (Some s) (Some r) = refl

-- ## The parts by their places

abbrev pub body_in : List ℕ → Option PlainBody
body_in bs = decode_body (get_or bs kind_at 0) (drop body_at bs)

abbrev header_in : List ℕ → Option Header
header_in bs = then_header (number_at bs tid_at) (party_at bs sender_at) (party_at bs receiver_at)

abbrev message_in : List ℕ → Option PlainBody → Option PlainMessage
message_in bs o = then_message (number_at bs tid_at) (party_at bs sender_at) (party_at bs receiver_at) o

pub read_headless : (bs : List ℕ) → None ≡ header_of bs → decode_message bs ≡ None
unfolding decode_message
read_headless bs e =
    cond_both (is_record bs && leb body_at (length bs)) (message_in bs (body_in bs)) None (λ o. o ≡ None)
    (λ t.
    let long = leb-true body_at (length bs) (and_parts (is_record bs) (leb body_at (length bs)) t).1
    in headless (number_at bs tid_at) (party_at bs sender_at) (party_at bs receiver_at) (body_in bs)
    (e ∙ cond-false (ltb (length bs) body_at) None (header_in bs) (le-ltb _ _ long)))
    (λ f. refl)

pub read_bodiless : (bs : List ℕ) → None ≡ body_in bs → decode_message bs ≡ None
unfolding decode_message
read_bodiless bs e =
    cond_both (is_record bs && leb body_at (length bs)) (message_in bs (body_in bs)) None (λ o. o ≡ None)
    (λ t. ap (message_in bs) (sym e) ∙ bodiless (number_at bs tid_at) (party_at bs sender_at) (party_at bs receiver_at))
    (λ f. refl)

pub read_whole :
    (bs : List ℕ) (h : Header) (b : PlainBody) →
    is_record bs ≡ true →
    Some h ≡ header_of bs →
    Some b ≡ body_in bs →
    decode_message bs ≡ Some (message_of h b)
unfolding decode_message
read_whole bs h b r e f = go (cases_lt (length bs) body_at)
  where
    go : ((length bs < body_at) ⊎ (body_at ≤ length bs)) → decode_message bs ≡ Some (message_of h b)
    go (inl short) =
        let none : Some h ≡ None = e ∙ cond-true (ltb (length bs) body_at) None (header_in bs) (lt-ltb _ _ short) in cc
    go (inr long) =
        cond-true (is_record bs && leb body_at (length bs)) (message_in bs (body_in bs)) None (and_from _ _ r (le-leb _ _ long)) ∙
        whole (number_at bs tid_at) (party_at bs sender_at) (party_at bs receiver_at) h (body_in bs) b
        (e ∙ cond-false (ltb (length bs) body_at) None (header_in bs) (le-ltb _ _ long))
        (sym f)
