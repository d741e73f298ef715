-- The step of an Empty message: an acknowledgement or a Reset of a request that was sent, or of an
-- answer that was sent (RFC 7252, 4.2 and 4.3).
use Rattle.std.specs.Prelude.{ℕ, Bool, if◌then◌else◌, Option, Some, None}
use Rattle.coap_message.specs.Message.{Message}
use Rattle.coap_endpoint.specs.declared.endpoint.Endpoint.{Endpoint}
use Rattle.coap_pending.specs.declared.exchange.Exchange.{Exchange}
use Rattle.coap_pending.specs.Exchanges.{acked, is_sent, was_sent_as}
use Rattle.coap_pending.specs.Table.{changed_at, first_that, item_at, without}
use Rattle.coap_pending.specs.Waiters as waiters
use Rattle.coap_model.specs.declared.deed.Deed.TheVariants.{Acknowledged, Closed}
use Rattle.coap_model.specs.declared.deed.Unprocessed.TheVariants.{Nothing}
use Rattle.coap_forward.specs.Messages.{is_ack}
use Rattle.coap_model.specs.State.{State, Step, later, silent, ignores}
use Rattle.coap_model.specs.Answers.{answers}

-- the request was acknowledged: its answer will be a separate response
abbrev pub acknowledges : State → ℕ → ℕ → Step
acknowledges w now number =
    silent (Acknowledged number)
    (record (later w now) { exchanges = changed_at number acked w.exchanges })

-- the client acknowledged its answer, or rejected it with a Reset
abbrev pub closes : State → ℕ → ℕ → Step
closes w now number =
    silent (Closed number) (record (later w now) { waiters = without number w.waiters })

-- an acknowledgement or a Reset of an answer that a client was sent
abbrev pub on_delivered : State → ℕ → Option ℕ → Step
on_delivered w now None = ignores w now Nothing
on_delivered w now (Some number) = closes w now number

abbrev pub on_delivery : State → ℕ → Endpoint → Message → Step
on_delivery w now source m =
    on_delivered w now (first_that (waiters.was_sent_as source m.id now) w.waiters)

-- an acknowledgement of a request, or a Reset, which is its answer
abbrev pub settles : State → ℕ → Bool → Endpoint → Message → ℕ → Exchange → Step
settles w now grown source m number x =
    if is_ack m.kind
    then acknowledges w now number
    else answers w now grown source m (number, x)

-- an exchange whose number was found exists, so the first case never occurs; if it was acknowledged
-- or answered before, the message doesn't refer to a request
abbrev pub on_exchange : State → ℕ → Bool → Endpoint → Message → ℕ → Option Exchange → Step
on_exchange w now grown source m number None = on_delivery w now source m
on_exchange w now grown source m number (Some x) =
    if is_sent x then settles w now grown source m number x else on_delivery w now source m

abbrev pub on_found : State → ℕ → Bool → Endpoint → Message → Option ℕ → Step
on_found w now grown source m None = on_delivery w now source m
on_found w now grown source m (Some number) =
    on_exchange w now grown source m number (item_at number w.exchanges)

abbrev pub on_empty : State → ℕ → Bool → Endpoint → Message → Step
on_empty w now grown source m =
    on_found w now grown source m (first_that (was_sent_as source m.id now) w.exchanges)
