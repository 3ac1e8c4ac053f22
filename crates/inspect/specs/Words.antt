-- What is said of a record.
use Rattle.std.specs.Prelude.{ℕ, Bool, true, cond, ◌||◌, List, [], ◌++◌, length, is_some, Some, None, codes, decimal, Option}
use Rattle.std.specs.List.{flat_map}
use Rattle.model.specs.declared.refusal.Refusal.TheVariants.{Malformed}
use Rattle.model.specs.declared.vote.Vote.{Vote}
use Rattle.model.specs.Items.{Item, compare, read, write}
use Rattle.model.specs.Messages.{Body, Message, prepare, voted, finish, inquiry, reply, query, settled}
use Rattle.model.specs.Parties.{party_text}
use Rattle.model.specs.Refusals.{refusal_number}
use Rattle.model.specs.Votes.{vote_number}
use Rattle.model.specs.Requests.{decode_request}
use Rattle.model.specs.MessageFormat.{decode_message}
use Rattle.messages.specs.Kinds.{kind_text, body_kind}
use Rattle.text.specs.Hex.{hex_bytes}
use Rattle.text.specs.Lines.{without}

-- ## Items

-- bytes in decimal, each behind a space
abbrev pub bytes_text : List ℕ → List ℕ
bytes_text bs = flat_map (λ b. codes " " ++ decimal b) bs

-- what is done with bytes at an address of a node
abbrev pub data_text : List ℕ → ℕ → ℕ → List ℕ → List ℕ
data_text deed n a ds =
    ((codes "  " ++ (deed ++ (codes " node " ++ (decimal n ++ (codes ", address " ++ (decimal a ++ codes ":")))))) ++
    bytes_text ds) ++
    codes "\n"

abbrev pub item_text : Item → List ℕ
item_text (compare n a ds) = data_text (codes "compare") n a ds
item_text (read n a l) =
    codes "  read node " ++
    (decimal n ++ (codes ", address " ++ (decimal a ++ (codes ", length " ++ (decimal l ++ codes "\n")))))
item_text (write n a ds) = data_text (codes "write") n a ds

-- the items, a line each
abbrev pub items_text : List Item → List ℕ
items_text is = flat_map item_text is

-- ## Records

abbrev pub again_text : Bool → List ℕ
again_text same = cond same (codes "written again: the same bytes\n") (codes "written again: other bytes\n")

abbrev pub request_text : List Item → List ℕ
request_text is = ((codes "request, items: " ++ (decimal (length is) ++ codes "\n")) ++ items_text is) ++ again_text true

abbrev pub yes_text : Bool → List ℕ
yes_text b = cond b (codes "yes") (codes "no")

abbrev pub flag_text : Bool → List ℕ
flag_text b = codes ", " ++ (yes_text b ++ codes "\n")

abbrev pub prepare_text : ℕ → List Item → List ℕ
prepare_text ps is =
    (codes ", participants " ++ (decimal ps ++ (codes ", items: " ++ (decimal (length is) ++ codes "\n")))) ++ items_text is

abbrev pub voted_text : Vote → List ℕ → List ℕ
voted_text v bs = ((codes ", vote " ++ (decimal (vote_number v) ++ codes ", reads:")) ++ bytes_text bs) ++ codes "\n"

abbrev pub body_text : Body → List ℕ
body_text (prepare ps is) = prepare_text ps is
body_text (voted v bs) = voted_text v bs
body_text (finish b) = flag_text b
body_text inquiry = codes "\n"
body_text (reply b) = flag_text b
body_text query = codes "\n"
body_text settled = codes "\n"

abbrev pub header_text : Message → List ℕ
header_text m =
    (((codes "message " ++ (kind_text (body_kind m.body) ++ (codes ", tid " ++ (decimal m.tid ++ codes ", from ")))) ++
    party_text m.sender) ++
    codes ", to ") ++
    party_text m.receiver

abbrev pub message_text : Message → List ℕ
message_text m = (header_text m ++ body_text m.body) ++ again_text true

-- ## Lines

abbrev pub maybe_text : {A : Type 0} → (A → List ℕ) → Option A → List ℕ
maybe_text say None = []
maybe_text say (Some x) = say x

-- a line that is no record is answered by the number of the refusal
abbrev pub refused_text : List ℕ
refused_text = decimal (refusal_number Malformed) ++ codes "\n"

-- the bytes may be a request, a message, or both
abbrev pub record_text : Option (List Item) → Option Message → List ℕ
record_text is m =
    cond (is_some is || is_some m) (maybe_text request_text is ++ maybe_text message_text m) refused_text

abbrev pub digits_text : Option (List ℕ) → List ℕ
digits_text None = refused_text
digits_text (Some bs) = record_text (decode_request bs) (decode_message bs)

-- a carriage return at the end of a line is no part of it
abbrev pub line_text : List ℕ → List ℕ
line_text line = digits_text (hex_bytes (without line 13))
