-- What was written reads back: messages.
use Rattle.std.proofs.Common.{◌≡◌, ℕ, ◌+◌, true, false, ◌&&◌, leb, ◌++◌, length, Some, refl, ◌∙◌, ap₂, arith}
use Rattle.std.proofs.lemmas.Bool.Decides.{nat_tests}
use Rattle.model.specs.declared.party.Party.{Party}
use Rattle.model.specs.declared.party.Party.TheVariants.{Node, Coordinator, Recovery}
use Rattle.model.specs.declared.vote.Vote.{Vote}
use Rattle.model.specs.declared.vote.Vote.TheVariants.{Yes, Busy, Forced, Mismatch, Full}
use Rattle.model.specs.Votes.{vote_number, vote_of}
use Rattle.model.specs.Messages.{Body, prepare, voted, finish, inquiry, reply, query, settled}
use Rattle.model.specs.Requests.{is_record}
use Rattle.model.specs.MessageFormat.{kind_of, party_kind, party_number, encode_body, encode_header, encode_message, is_body, decode_party, decode_body, decode_message, party_at, sender_at, receiver_at, body_at}
use Rattle.model.specs.RoundTrips.{MessageReadsBack}
use Rattle.model.proofs.ReadsBack.{joined16, list_back}

vote_back : (v : Vote) → vote_of (vote_number v) ≡ Some v
vote_back Yes = refl
vote_back Busy = refl
vote_back Forced = refl
vote_back Mismatch = refl
vote_back Full = refl

body_back : (b : Body) → is_body b ≡ true → decode_body (kind_of b) (encode_body b) ≡ Some b
body_back (prepare ps is) h = let l = list_back is h in grind (arith, nat_tests)
body_back (voted v bs) h = let b = vote_back v in grind (arith, nat_tests)
body_back (finish true) h = refl
body_back (finish false) h = refl
body_back inquiry h = refl
body_back (reply true) h = refl
body_back (reply false) h = refl
body_back query h = refl
body_back settled h = refl

party_back : (tid : ℕ) (p : Party) → decode_party tid (party_kind p) (party_number tid p) ≡ Some p
party_back tid (Node n) = refl
party_back tid Coordinator = grind (arith, nat_tests)
party_back tid (Recovery n) = refl

pub message_back : MessageReadsBack
unfolding decode_message encode_message
message_back m h =
    let t = joined16 m.tid
    in let s = joined16 (party_number m.tid m.sender)
    in let r = joined16 (party_number m.tid m.receiver)
    in let n = joined16 (1 + length (encode_header m ++ encode_body m.body))
    in let whole : (is_record (encode_message m) && leb body_at (length (encode_message m))) ≡ true = grind (arith, nat_tests)
    in let sender : party_at (encode_message m) sender_at ≡ Some m.sender =
    ap₂ (λ a b. decode_party a (party_kind m.sender) b) t s ∙ party_back m.tid m.sender
    in let receiver : party_at (encode_message m) receiver_at ≡ Some m.receiver =
    ap₂ (λ a b. decode_party a (party_kind m.receiver) b) t r ∙ party_back m.tid m.receiver
    in let body = body_back m.body h
    in grind (arith, nat_tests)
