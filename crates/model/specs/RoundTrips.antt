-- What was written reads back, and what was read is written again with the same bytes.
use Rattle.std.specs.Prelude.{◌≡◌, ℕ, ◌<◌, true, List, Some, slice_index}
use Rattle.model.specs.Items.{Item}
use Rattle.model.specs.ItemFormat.{is_list}
use Rattle.model.specs.Requests.{encode_request, decode_request}
use Rattle.model.specs.Messages.{Message}
use Rattle.model.specs.MessageFormat.{encode_message, decode_message, is_body}

-- numbers that fit a byte each
abbrev pub Bytes : List ℕ → Type 0
Bytes bs = (k : ℕ) → slice_index bs k < 256

abbrev pub RequestReadsBack : Type 0
RequestReadsBack = (is : List Item) → is_list is ≡ true → decode_request (encode_request is) ≡ Some is

abbrev pub RequestWritesAgain : Type 0
RequestWritesAgain =
    (bs : List ℕ) (is : List Item) → Bytes bs → decode_request bs ≡ Some is → (is_list is ≡ true) × (encode_request is ≡ bs)

abbrev pub MessageReadsBack : Type 0
MessageReadsBack = (m : Message) → is_body m.body ≡ true → decode_message (encode_message m) ≡ Some m

abbrev pub MessageWritesAgain : Type 0
MessageWritesAgain =
    (bs : List ℕ) (m : Message) →
    Bytes bs → decode_message bs ≡ Some m → (is_body m.body ≡ true) × (encode_message m ≡ bs)

-- each value has one record, and each record one value of its sort
pub record OneToOne : Type 0 where
  pub requests_read_back : RequestReadsBack
  pub requests_written_again : RequestWritesAgain
  pub requests_differ : (is js : List Item) → is_list is ≡ true → is_list js ≡ true → encode_request is ≡ encode_request js → is ≡ js
  pub messages_read_back : MessageReadsBack
  pub messages_written_again : MessageWritesAgain
  pub messages_differ :
      (m n : Message) → is_body m.body ≡ true → is_body n.body ≡ true → encode_message m ≡ encode_message n → m ≡ n
