-- Each value has one record, and each record one value of its sort.
use Rattle.std.proofs.Common.{◌≡◌, true, List, Some, sym, ap, ◌∙◌}
use Rattle.model.specs.Items.{Item}
use Rattle.model.specs.ItemFormat.{is_list}
use Rattle.model.specs.Requests.{encode_request, decode_request}
use Rattle.model.specs.Messages.{Message}
use Rattle.model.specs.MessageFormat.{encode_message, decode_message, is_body}
use Rattle.model.specs.RoundTrips.{OneToOne}
use Rattle.model.proofs.ReadsBack.{request_back}
use Rattle.model.proofs.WritesAgain.{request_again}
use Rattle.model.proofs.MessageReadsBack.{message_back}
use Rattle.model.proofs.MessageWritesAgain.{message_again}

pub request_injective :
    (is js : List Item) → is_list is ≡ true → is_list js ≡ true → encode_request is ≡ encode_request js → is ≡ js
request_injective is js h k e =
    let same : Some is ≡ Some js = sym (request_back is h) ∙ ap decode_request e ∙ request_back js k in cc

pub message_injective :
    (m n : Message) → is_body m.body ≡ true → is_body n.body ≡ true → encode_message m ≡ encode_message n → m ≡ n
message_injective m n h k e =
    let same : Some m ≡ Some n = sym (message_back m h) ∙ ap decode_message e ∙ message_back n k in cc

pub one_to_one : OneToOne
one_to_one =
    record {
      requests_read_back = request_back;
      requests_written_again = request_again;
      requests_differ = request_injective;
      messages_read_back = message_back;
      messages_written_again = message_again;
      messages_differ = message_injective;
    }
