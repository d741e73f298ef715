-- One step: a datagram or a tick at a moment.
use Rattle.std.specs.Prelude.{ℕ, ◌&&◌, Bool, nat_le, if◌then◌else◌, List, length, Option, Some, None}
use Rattle.std.specs.Result.{result_ok}
use Rattle.coap_message.specs.declared.message.Head.{Head}
use Rattle.coap_message.specs.Message.{Message}
use Rattle.coap_message.specs.Reading.{read_message, head_at}
use Rattle.coap_endpoint.specs.declared.endpoint.Endpoint.{Endpoint}
use Rattle.coap_model.specs.Events.{Event, arrival, tick}
use Rattle.coap_message.specs.Codes.{is_request, is_response}
use Rattle.coap_forward.specs.Messages.{brings_requests, brings_responses, is_bare}
use Rattle.coap_model.specs.declared.deed.Unprocessed.{Unprocessed}
use Rattle.coap_model.specs.Deeds.{unread, unprocessable}
use Rattle.coap_model.specs.State.{State, Step, ignores, unprocessed}
use Rattle.coap_model.specs.Requests.{on_request}
use Rattle.coap_model.specs.Responses.{on_response}
use Rattle.coap_model.specs.Empties.{on_empty}
use Rattle.coap_model.specs.Ticks.{on_tick}

abbrev pub on_no_response : State → ℕ → Bool → Endpoint → Message → Step
on_no_response w now grown source m =
    if is_bare m
    then on_empty w now grown source m
    else unprocessed w now source m.kind m.id (unprocessable m.kind m.code)

abbrev pub on_no_request : State → ℕ → Bool → Endpoint → Message → Step
on_no_request w now grown source m =
    if brings_responses m.kind && is_response m.code
    then on_response w now grown source m
    else on_no_response w now grown source m

-- a request, a response, or an Empty message; anything else isn't processed
abbrev pub on_message : State → ℕ → Bool → Endpoint → Message → Step
on_message w now grown source m =
    if brings_requests m.kind && is_request m.code
    then on_request w now source m
    else on_no_request w now grown source m

-- the message that a datagram encodes, if the datagram isn't too long
unfoldable pub message_in : ℕ → List ℕ → Option Message
message_in most bytes = if nat_le (length bytes) most then result_ok (read_message bytes) else None

-- `why` is why the datagram holds no message, if it holds none
abbrev pub on_read :
    State → ℕ → Bool → Endpoint → Unprocessed → Option Head → Option Message → Step
on_read w now grown source why None m = ignores w now why
on_read w now grown source why (Some head) None = unprocessed w now source head.kind head.id why
on_read w now grown source why (Some head) (Some m) = on_message w now grown source m

-- a datagram shorter than four bytes, or with another version, is ignored
abbrev pub on_datagram : State → ℕ → Bool → Endpoint → List ℕ → Step
on_datagram w now grown source bytes =
    on_read w now grown source (unread w.setting.limits.datagram bytes) (head_at bytes)
    (message_in w.setting.limits.datagram bytes)

-- One step, at a moment, with a random draw, which determines the duration of a timer that is
-- started. `grown` is the only choice that depends on memory: whether there is enough for one more
-- entry of the store.
abbrev pub step_of : State → ℕ → ℕ → Bool → Event → Step
step_of w now draw grown (arrival source bytes) = on_datagram w now grown source bytes
step_of w now draw grown tick = on_tick w now draw
