-- What was read is written again with the same bytes: messages.
use Rattle.std.proofs.Common.{◌≡◌, ℕ, ◌+◌, ◌*◌, ◌/◌, ◌%◌, ◌<◌, Bool, true, false, cond, ◌&&◌, eqb, ltb, leb, List, [], ◌∷◌, length, get_or, drop, Some, None, Option, sym, refl, ap, ◌∙◌, subst, ap₂, arith, lit<}
use Rattle.std.proofs.lemmas.List.{nil_from_length}
use Rattle.std.proofs.lemmas.Bool.{and_parts, eqb-true, leb-true}
use Rattle.std.proofs.lemmas.Bool.Decides.{nat_tests}
use Rattle.std.specs.Option.{option_map}
use Rattle.model.specs.declared.party.Party.{Party}
use Rattle.model.specs.declared.party.Party.TheVariants.{Node, Coordinator, Recovery}
use Rattle.model.specs.declared.vote.Vote.{Vote}
use Rattle.model.specs.declared.vote.Vote.TheVariants.{Yes, Busy, Forced, Mismatch, Full}
use Rattle.model.specs.Items.{Item}
use Rattle.model.specs.Votes.{vote_number, vote_of}
use Rattle.model.specs.Messages.{Body, Message, prepare, voted, finish, inquiry, reply, query, settled}
use Rattle.model.specs.ItemFormat.{decode_list}
use Rattle.model.specs.Requests.{encode_record, is_record}
use Rattle.model.specs.MessageFormat.{kind_of, party_kind, party_number, encode_body, encode_message, is_body, reads_limit, flag_byte, decode_party, decode_flag, decode_prepare, decode_voted, voted_with, then_vote, decode_empty, decode_body, decode_message, then_message, number_at, party_at, tid_at, sender_at, receiver_at, body_at, kind_at}
use Rattle.model.specs.RoundTrips.{Bytes, MessageWritesAgain}
use Rattle.model.proofs.WritesAgain.{rung, bytes_drop, high16, low16, CountedFrom, list_again, record_again}

-- ## Sender and receiver

PartyFrom : ℕ → ℕ → ℕ → Option Party → Type 0
PartyFrom tid k n None = Unit {0}
PartyFrom tid k n (Some p) = (party_kind p ≡ k) × (party_number tid p ≡ n)

party_again : (tid k n : ℕ) → PartyFrom tid k n (decode_party tid k n)
unfolding PartyFrom
party_again tid k n =
    rung (PartyFrom tid k n) (eqb k 0) (Some (Node n)) _ (λ e. (sym (eqb-true _ _ e), refl))
    (λ e.
    rung (PartyFrom tid k n) (eqb k 1) (cond (eqb n tid) (Some Coordinator) None) _
    (λ e.
    rung (PartyFrom tid k n) (eqb n tid) (Some Coordinator) None
    (λ f. (sym (eqb-true _ _ e), sym (eqb-true _ _ f)))
    (λ f. tt))
    (λ e.
    rung (PartyFrom tid k n) (eqb k 2) (Some (Recovery n)) None (λ e. (sym (eqb-true _ _ e), refl)) (λ e. tt)))

-- ## Bodies

BodyFrom : ℕ → List ℕ → Option Body → Type 0
BodyFrom k bs None = Unit {0}
BodyFrom k bs (Some b) = (is_body b ≡ true) × (kind_of b ≡ k) × (encode_body b ≡ bs)

prepare_again : (bs : List ℕ) → Bytes bs → BodyFrom 1 bs (decode_prepare bs)
unfolding BodyFrom CountedFrom
prepare_again [] b = tt
prepare_again (ps ∷ rest) b =
    rung (BodyFrom 1 (ps ∷ rest)) (ltb (length (ps ∷ rest)) 1) None _ (λ e. tt)
    (λ e. go (decode_list rest) (list_again rest (bytes_drop 1 (ps ∷ rest) b)))
  where
    go : (o : Option (List Item)) → CountedFrom rest o → BodyFrom 1 (ps ∷ rest) (option_map (λ is. prepare ps is) o)
    go None l = tt
    go (Some is) l = (l.0, refl, ap (λ t. ps ∷ t) l.1)

VoteFrom : ℕ → Option Vote → Type 0
VoteFrom n None = Unit {0}
VoteFrom n (Some v) = vote_number v ≡ n

vote_again : (n : ℕ) → VoteFrom n (vote_of n)
unfolding VoteFrom
vote_again n =
    rung (VoteFrom n) (eqb n 0) (Some Yes) _ (λ e. sym (eqb-true _ _ e))
    (λ e.
    rung (VoteFrom n) (eqb n 1) (Some Busy) _ (λ e. sym (eqb-true _ _ e))
    (λ e.
    rung (VoteFrom n) (eqb n 2) (Some Forced) _ (λ e. sym (eqb-true _ _ e))
    (λ e.
    rung (VoteFrom n) (eqb n 3) (Some Mismatch) _ (λ e. sym (eqb-true _ _ e))
    (λ e. rung (VoteFrom n) (eqb n 4) (Some Full) None (λ e. sym (eqb-true _ _ e)) (λ e. tt)))))

voted_again : (bs : List ℕ) → BodyFrom 2 bs (decode_voted bs)
unfolding BodyFrom VoteFrom
voted_again [] = tt
voted_again (n ∷ rest) =
    rung (BodyFrom 2 (n ∷ rest)) (ltb (length (n ∷ rest)) 1) None _ (λ e. tt) (λ e. go (vote_of n) (vote_again n))
  where
    go : (o : Option Vote) → VoteFrom n o → BodyFrom 2 (n ∷ rest) (then_vote o (λ v. voted_with rest v))
    go None f = tt
    go (Some v) f =
        rung (BodyFrom 2 (n ∷ rest)) (leb (length rest) (reads_limit v)) (Some (voted v rest)) None
        (λ e. (e, refl, ap (λ k. k ∷ rest) f))
        (λ e. tt)

flag_again :
    (make : Bool → Body) (k : ℕ) →
    ((b : Bool) → (is_body (make b) ≡ true) × (kind_of (make b) ≡ k) × (encode_body (make b) ≡ flag_byte b ∷ [])) →
    (bs : List ℕ) → BodyFrom k bs (option_map make (decode_flag bs))
unfolding BodyFrom
flag_again make k made [] = tt
flag_again make k made (n ∷ rest) =
    rung P (eqb (length (n ∷ rest)) 1) _ None
    (λ one.
    let none : rest ≡ [] = nil_from_length rest (grind (arith, nat_tests))
    in rung P (eqb n 0) (Some false) _
    (λ e. let m = made false in (m.0, m.1, m.2 ∙ ap₂ (λ a t. a ∷ t) (sym (eqb-true _ _ e)) (sym none)))
    (λ e.
    rung P (eqb n 1) (Some true) None
    (λ e. let m = made true in (m.0, m.1, m.2 ∙ ap₂ (λ a t. a ∷ t) (sym (eqb-true _ _ e)) (sym none)))
    (λ e. tt)))
    (λ e. tt)
  where
    P : Option Bool → Type 0
    P o = BodyFrom k (n ∷ rest) (option_map make o)

empty_again :
    (b : Body) (k : ℕ) → (is_body b ≡ true) × (kind_of b ≡ k) × (encode_body b ≡ []) →
    (bs : List ℕ) → BodyFrom k bs (decode_empty b bs)
unfolding BodyFrom
empty_again b k made bs =
    rung (BodyFrom k bs) (eqb (length bs) 0) (Some b) None
    (λ e. (made.0, made.1, made.2 ∙ sym (nil_from_length bs (eqb-true _ _ e))))
    (λ e. tt)

-- a kind that is known stands in for the kind that was tested
at_kind : (k n : ℕ) (bs : List ℕ) (o : Option Body) → eqb k n ≡ true → BodyFrom n bs o → BodyFrom k bs o
at_kind k n bs o e = subst (λ m. BodyFrom m bs o) (sym (eqb-true k n e))

body_again : (k : ℕ) (bs : List ℕ) → Bytes bs → BodyFrom k bs (decode_body k bs)
unfolding BodyFrom
body_again k bs b =
    rung (BodyFrom k bs) (eqb k 1) (decode_prepare bs) _ (λ e. at_kind k 1 bs _ e (prepare_again bs b))
    (λ e.
    rung (BodyFrom k bs) (eqb k 2) (decode_voted bs) _ (λ e. at_kind k 2 bs _ e (voted_again bs))
    (λ e.
    rung (BodyFrom k bs) (eqb k 3) (option_map (λ f. finish f) (decode_flag bs)) _
    (λ e. at_kind k 3 bs _ e (flag_again (λ f. finish f) 3 (λ f. (refl, refl, refl)) bs))
    (λ e.
    rung (BodyFrom k bs) (eqb k 4) (decode_empty inquiry bs) _
    (λ e. at_kind k 4 bs _ e (empty_again inquiry 4 (refl, refl, refl) bs))
    (λ e.
    rung (BodyFrom k bs) (eqb k 5) (option_map (λ f. reply f) (decode_flag bs)) _
    (λ e. at_kind k 5 bs _ e (flag_again (λ f. reply f) 5 (λ f. (refl, refl, refl)) bs))
    (λ e.
    rung (BodyFrom k bs) (eqb k 6) (decode_empty query bs) _
    (λ e. at_kind k 6 bs _ e (empty_again query 6 (refl, refl, refl) bs))
    (λ e.
    rung (BodyFrom k bs) (eqb k 7) (decode_empty settled bs) None
    (λ e. at_kind k 7 bs _ e (empty_again settled 7 (refl, refl, refl) bs))
    (λ e. tt)))))))

-- ## Messages

MessageFrom : List ℕ → Option Message → Type 0
MessageFrom bs None = Unit {0}
MessageFrom bs (Some m) = (is_body m.body ≡ true) × (encode_message m ≡ bs)

-- the header's bytes, and then the body's
fields_again :
    (h l v k t u s0 s1 s2 r0 r1 r2 : ℕ) (rest : List ℕ) (s r : Option Party) (o : Option Body) →
    u < 256 → s2 < 256 → r2 < 256 →
    encode_record (k ∷ t ∷ u ∷ s0 ∷ s1 ∷ s2 ∷ r0 ∷ r1 ∷ r2 ∷ rest) ≡ h ∷ l ∷ v ∷ k ∷ t ∷ u ∷ s0 ∷ s1 ∷ s2 ∷ r0 ∷ r1 ∷ r2 ∷ rest →
    PartyFrom (t * 256 + u) s0 (s1 * 256 + s2) s →
    PartyFrom (t * 256 + u) r0 (r1 * 256 + r2) r →
    BodyFrom k rest o →
    MessageFrom (h ∷ l ∷ v ∷ k ∷ t ∷ u ∷ s0 ∷ s1 ∷ s2 ∷ r0 ∷ r1 ∷ r2 ∷ rest) (then_message (t * 256 + u) s r o)
unfolding MessageFrom PartyFrom BodyFrom encode_message
fields_again h l v k t u s0 s1 s2 r0 r1 r2 rest None r o bu bs br whole ps pr pb = tt
fields_again h l v k t u s0 s1 s2 r0 r1 r2 rest (Some s) None o bu bs br whole ps pr pb = tt
fields_again h l v k t u s0 s1 s2 r0 r1 r2 rest (Some s) (Some r) None bu bs br whole ps pr pb = tt
fields_again h l v k t u s0 s1 s2 r0 r1 r2 rest (Some s) (Some r) (Some b) bu bs br whole ps pr pb =
    let t1 = high16 t u bu
    in let t2 = low16 t u bu
    in let s3 : party_number (t * 256 + u) s / 256 ≡ s1 = ap (λ n. n / 256) ps.1 ∙ high16 s1 s2 bs
    in let s4 : party_number (t * 256 + u) s % 256 ≡ s2 = ap (λ n. n % 256) ps.1 ∙ low16 s1 s2 bs
    in let r3 : party_number (t * 256 + u) r / 256 ≡ r1 = ap (λ n. n / 256) pr.1 ∙ high16 r1 r2 br
    in let r4 : party_number (t * 256 + u) r % 256 ≡ r2 = ap (λ n. n % 256) pr.1 ∙ low16 r1 r2 br
    in let sk = ps.0
    in let rk = pr.0
    in let bk = pb.1
    in let be = pb.2
    in let content :
    kind_of b ∷ ((t * 256 + u) / 256) ∷ ((t * 256 + u) % 256) ∷ party_kind s ∷ (party_number (t * 256 + u) s / 256) ∷ (party_number (t * 256 + u) s % 256) ∷ party_kind r ∷ (party_number (t * 256 + u) r / 256) ∷ (party_number (t * 256 + u) r % 256) ∷ encode_body b ≡
    k ∷ t ∷ u ∷ s0 ∷ s1 ∷ s2 ∷ r0 ∷ r1 ∷ r2 ∷ rest = cc
    in (pb.0, ap encode_record content ∙ whole)

short : (n : ℕ) (r : Bool) → (r && leb 12 n) ≡ true → n < 12 → ⊥
short n r e h = let long = leb-true 12 n (and_parts r (leb 12 n) e).1 in omega arith

message_from : (bs : List ℕ) → Bytes bs → MessageFrom bs (decode_message bs)
unfolding MessageFrom decode_message
message_from bs b =
    rung (MessageFrom bs) (is_record bs && leb body_at (length bs)) _ None (λ e. go bs b e) (λ e. tt)
  where
    go :
        (bs : List ℕ) → Bytes bs → (is_record bs && leb body_at (length bs)) ≡ true →
        MessageFrom bs (then_message (number_at bs tid_at) (party_at bs sender_at) (party_at bs receiver_at) (decode_body (get_or bs kind_at 0) (drop body_at bs)))
    go [] b e = absurd (short 0 (is_record []) e (lit< tt))
    go (h ∷ []) b e = absurd (short 1 (is_record (h ∷ [])) e (lit< tt))
    go (h ∷ l ∷ []) b e = absurd (short 2 (is_record (h ∷ l ∷ [])) e (lit< tt))
    go (h ∷ l ∷ v ∷ []) b e = absurd (short 3 (is_record (h ∷ l ∷ v ∷ [])) e (lit< tt))
    go (h ∷ l ∷ v ∷ k ∷ []) b e = absurd (short 4 (is_record (h ∷ l ∷ v ∷ k ∷ [])) e (lit< tt))
    go (h ∷ l ∷ v ∷ k ∷ t ∷ []) b e = absurd (short 5 (is_record (h ∷ l ∷ v ∷ k ∷ t ∷ [])) e (lit< tt))
    go (h ∷ l ∷ v ∷ k ∷ t ∷ u ∷ []) b e = absurd (short 6 (is_record (h ∷ l ∷ v ∷ k ∷ t ∷ u ∷ [])) e (lit< tt))
    go (h ∷ l ∷ v ∷ k ∷ t ∷ u ∷ s0 ∷ []) b e = absurd (short 7 (is_record (h ∷ l ∷ v ∷ k ∷ t ∷ u ∷ s0 ∷ [])) e (lit< tt))
    go (h ∷ l ∷ v ∷ k ∷ t ∷ u ∷ s0 ∷ s1 ∷ []) b e = absurd (short 8 (is_record (h ∷ l ∷ v ∷ k ∷ t ∷ u ∷ s0 ∷ s1 ∷ [])) e (lit< tt))
    go (h ∷ l ∷ v ∷ k ∷ t ∷ u ∷ s0 ∷ s1 ∷ s2 ∷ []) b e = absurd (short 9 (is_record (h ∷ l ∷ v ∷ k ∷ t ∷ u ∷ s0 ∷ s1 ∷ s2 ∷ [])) e (lit< tt))
    go (h ∷ l ∷ v ∷ k ∷ t ∷ u ∷ s0 ∷ s1 ∷ s2 ∷ r0 ∷ []) b e = absurd (short 10 (is_record (h ∷ l ∷ v ∷ k ∷ t ∷ u ∷ s0 ∷ s1 ∷ s2 ∷ r0 ∷ [])) e (lit< tt))
    go (h ∷ l ∷ v ∷ k ∷ t ∷ u ∷ s0 ∷ s1 ∷ s2 ∷ r0 ∷ r1 ∷ []) b e = absurd (short 11 (is_record (h ∷ l ∷ v ∷ k ∷ t ∷ u ∷ s0 ∷ s1 ∷ s2 ∷ r0 ∷ r1 ∷ [])) e (lit< tt))
    go (h ∷ l ∷ v ∷ k ∷ t ∷ u ∷ s0 ∷ s1 ∷ s2 ∷ r0 ∷ r1 ∷ r2 ∷ rest) b e =
        let bs : List ℕ = h ∷ l ∷ v ∷ k ∷ t ∷ u ∷ s0 ∷ s1 ∷ s2 ∷ r0 ∷ r1 ∷ r2 ∷ rest
        in let record_bytes = record_again bs b (and_parts (is_record bs) (leb body_at (length bs)) e).0
        in fields_again h l v k t u s0 s1 s2 r0 r1 r2 rest _ _ _ (b 5) (b 8) (b 11) record_bytes
        (party_again (t * 256 + u) s0 (s1 * 256 + s2))
        (party_again (t * 256 + u) r0 (r1 * 256 + r2))
        (body_again k rest (bytes_drop 12 bs b))

pub message_again : MessageWritesAgain
unfolding MessageFrom
message_again bs m b e = subst (MessageFrom bs) e (message_from bs b)
