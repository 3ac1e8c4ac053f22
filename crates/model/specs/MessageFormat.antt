-- The bytes of messages, written and read.
use Rattle.std.specs.Prelude.{ℕ, ◌+◌, ◌*◌, Bool, true, false, cond, ◌&&◌, List, [], ◌∷◌, ◌++◌, length, drop, Some, None, Option, ◌==◌, nat_le, nat_lt, slice_index}
use Rattle.std.specs.Option.{option_map}
use Rattle.model.specs.declared.party.Party.{Party}
use Rattle.model.specs.declared.party.Party.TheVariants.{Node, Coordinator, Recovery}
use Rattle.model.specs.declared.vote.Vote.{Vote}
use Rattle.model.specs.Numbers.{most_reads}
use Rattle.model.specs.Votes.{vote_number, vote_of}
use Rattle.model.specs.Messages.{Body, Message, prepare, voted, finish, inquiry, reply, query, settled}
use Rattle.model.specs.ItemFormat.{be16, encode_list, decode_list, is_list}
use Rattle.model.specs.Requests.{encode_record, is_record}

-- ## Where the fields of a message stand, counted from the first byte of the record

abbrev pub kind_at : ℕ
kind_at = 3

abbrev pub tid_at : ℕ
tid_at = 4

abbrev pub sender_at : ℕ
sender_at = 6

abbrev pub receiver_at : ℕ
receiver_at = 9

abbrev pub body_at : ℕ
body_at = 12

-- ## Writing

abbrev pub kind_of : Body → ℕ
kind_of (prepare ps is) = 1
kind_of (voted v bs) = 2
kind_of (finish b) = 3
kind_of inquiry = 4
kind_of (reply b) = 5
kind_of query = 6
kind_of settled = 7

abbrev pub party_kind : Party → ℕ
party_kind (Node n) = 0
party_kind Coordinator = 1
party_kind (Recovery n) = 2

-- a coordinator's number is the tid
abbrev pub party_number : ℕ → Party → ℕ
party_number tid (Node n) = n
party_number tid Coordinator = tid
party_number tid (Recovery n) = n

abbrev pub encode_party : ℕ → Party → List ℕ
encode_party tid p = party_kind p ∷ be16 (party_number tid p)

abbrev pub flag_byte : Bool → ℕ
flag_byte b = cond b 1 0

abbrev pub encode_body : Body → List ℕ
encode_body (prepare ps is) = ps ∷ encode_list is
encode_body (voted v bs) = vote_number v ∷ bs
encode_body (finish b) = flag_byte b ∷ []
encode_body inquiry = []
encode_body (reply b) = flag_byte b ∷ []
encode_body query = []
encode_body settled = []

-- how many read bytes a vote may carry: they come only with a yes
abbrev pub reads_limit : Vote → ℕ
reads_limit v = cond (vote_number v == 0) most_reads 0

-- whether a body has bytes at all
abbrev pub is_body : Body → Bool
is_body (prepare ps is) = is_list is
is_body (voted v bs) = nat_le (length bs) (reads_limit v)
is_body (finish b) = true
is_body inquiry = true
is_body (reply b) = true
is_body query = true
is_body settled = true

abbrev pub encode_header : Message → List ℕ
encode_header m =
    kind_of m.body ∷ ((be16 m.tid ++ encode_party m.tid m.sender) ++ encode_party m.tid m.receiver)

unfoldable pub encode_message : Message → List ℕ
encode_message m = encode_record (encode_header m ++ encode_body m.body)

-- ## Reading

abbrev pub decode_party : ℕ → ℕ → ℕ → Option Party
decode_party tid kind n =
    cond (kind == 0) (Some (Node n))
    (cond (kind == 1) (cond (n == tid) (Some Coordinator) None) (cond (kind == 2) (Some (Recovery n)) None))

abbrev pub decode_flag : List ℕ → Option Bool
decode_flag bs =
    cond (length bs == 1)
    (cond (slice_index bs 0 == 0) (Some false) (cond (slice_index bs 0 == 1) (Some true) None))
    None

abbrev pub decode_prepare : List ℕ → Option Body
decode_prepare bs =
    cond (nat_lt (length bs) 1) None (option_map (λ is. prepare (slice_index bs 0) is) (decode_list (drop 1 bs)))

abbrev pub voted_with : List ℕ → Vote → Option Body
voted_with bs v = cond (nat_le (length bs) (reads_limit v)) (Some (voted v bs)) None

abbrev pub then_vote : Option Vote → (Vote → Option Body) → Option Body
then_vote None more = None
then_vote (Some v) more = more v

abbrev pub decode_voted : List ℕ → Option Body
decode_voted bs = cond (nat_lt (length bs) 1) None (then_vote (vote_of (slice_index bs 0)) (λ v. voted_with (drop 1 bs) v))

abbrev pub decode_empty : Body → List ℕ → Option Body
decode_empty b bs = cond (length bs == 0) (Some b) None

abbrev pub decode_body : ℕ → List ℕ → Option Body
decode_body kind bs =
    cond (kind == 1) (decode_prepare bs)
    (cond (kind == 2) (decode_voted bs)
    (cond (kind == 3) (option_map (λ b. finish b) (decode_flag bs))
    (cond (kind == 4) (decode_empty inquiry bs)
    (cond (kind == 5) (option_map (λ b. reply b) (decode_flag bs))
    (cond (kind == 6) (decode_empty query bs) (cond (kind == 7) (decode_empty settled bs) None))))))

abbrev pub number_at : List ℕ → ℕ → ℕ
number_at bs i = slice_index bs i * 256 + slice_index bs (i + 1)

abbrev pub party_at : List ℕ → ℕ → Option Party
party_at bs i = decode_party (number_at bs tid_at) (slice_index bs i) (number_at bs (i + 1))

abbrev pub then_message : ℕ → Option Party → Option Party → Option Body → Option Message
then_message tid None receiver body = None
then_message tid (Some s) None body = None
then_message tid (Some s) (Some r) None = None
then_message tid (Some s) (Some r) (Some b) = Some (record { tid = tid; sender = s; receiver = r; body = b })

unfoldable pub decode_message : List ℕ → Option Message
decode_message bs =
    cond (is_record bs && nat_le body_at (length bs))
    (then_message (number_at bs tid_at) (party_at bs sender_at) (party_at bs receiver_at)
    (decode_body (slice_index bs kind_at) (drop body_at bs)))
    None
