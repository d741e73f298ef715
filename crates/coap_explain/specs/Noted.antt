-- What is noted of a turn before its step: what a tick is about, and what came for an exchange.
use Rattle.std.specs.Prelude.{ℕ, ◌-◌, if◌then◌else◌, Option, None, Some, Result, Ok, Err}
use Rattle.coap_endpoint.specs.declared.endpoint.Endpoint.{Endpoint}
use Rattle.coap_message.specs.declared.error.DecodeError.{DecodeError}
use Rattle.coap_message.specs.Codes.{is_response}
use Rattle.coap_message.specs.Message.{Message}
use Rattle.coap_message.specs.Reading.{read_message}
use Rattle.coap_pending.specs.declared.exchange.Exchange.{Exchange}
use Rattle.coap_pending.specs.declared.exchange.ExchangeState.{ExchangeState}
use Rattle.coap_pending.specs.declared.exchange.ExchangeState.TheVariants.{Queued, Sent, Acked, Done}
use Rattle.coap_pending.specs.declared.exchange.Sending.{Sending}
use Rattle.coap_pending.specs.declared.waiter.Waiter.{Waiter}
use Rattle.coap_pending.specs.declared.waiter.WaiterState.{WaiterState}
use Rattle.coap_pending.specs.declared.waiter.WaiterState.TheVariants.{Waiting, Delivering}
use Rattle.coap_model.specs.Answers.{answer_for}
use Rattle.coap_model.specs.Events.{Event, arrival, tick}
use Rattle.coap_model.specs.State.{State}
use Rattle.coap_core.specs.Watching.{awaited, due_exchange, due_waiter, due_waiting}
use Rattle.coap_explain.specs.Causes.{gateway_of, is_reset}
use Rattle.coap_explain.specs.declared.answering.Answering.{Answering}
use Rattle.coap_explain.specs.declared.answering.Answering.TheVariants.{Own, Passed}
use Rattle.coap_explain.specs.declared.causes.BadGateway.TheVariants.{Reset}
use Rattle.coap_explain.specs.declared.causes.Silence.{Silence}
use Rattle.coap_explain.specs.declared.causes.Silence.TheVariants.{NotSent, NotAcknowledged, NotAnswered}
use Rattle.coap_explain.specs.declared.due.TickSubject.{TickSubject}
use Rattle.coap_explain.specs.declared.due.TickSubject.TheVariants as subjects
use Rattle.coap_explain.specs.declared.due.DueAnswer.{DueAnswer}
use Rattle.coap_explain.specs.declared.due.DueClient.{DueClient}
use Rattle.coap_explain.specs.declared.due.DueExchange.{DueExchange}

-- ---- what a tick is about

abbrev pub silence_of : ExchangeState → Silence
silence_of Queued = NotSent
silence_of Sent = NotAcknowledged
silence_of Acked = NotAnswered
silence_of (Done a) = NotAnswered

abbrev pub answer_in : ExchangeState → Option DueAnswer
answer_in Queued = None
answer_in Sent = None
answer_in Acked = None
answer_in (Done a) = Some (record { code = a.message.code; own = a.own; got = a.got })

abbrev pub id_of : Option Sending → Option ℕ
id_of None = None
id_of (Some s) = Some s.id

abbrev pub transmissions_of : Option Sending → ℕ
transmissions_of None = 0
transmissions_of (Some s) = s.timer.transmissions

-- an exchange that so many clients wait for
abbrev pub exchange_of : Exchange → ℕ → DueExchange
exchange_of x waiting = record {
  origin = x.key.target.at;
  id = id_of x.sending;
  transmissions = transmissions_of x.sending;
  admitted = x.admitted;
  waiting = waiting;
  silence = silence_of x.state;
  answer = answer_in x.state;
}

-- how long it took: to its answer, or to a moment
abbrev pub took_until : Option DueAnswer → ℕ → ℕ
took_until None now = now
took_until (Some a) now = a.got

abbrev pub took : DueExchange → ℕ → ℕ
took x now = took_until x.answer now - x.admitted

-- a client that was sent its answer
abbrev pub client_in : Endpoint → WaiterState → Option DueClient
client_in client (Waiting exchange) = None
client_in client (Delivering bytes id timer) =
    Some (record { client = client; transmissions = timer.transmissions; started = timer.started })

abbrev pub client_of : Waiter → Option DueClient
client_of v = client_in v.client v.state

abbrev pub due_client : Option DueClient → TickSubject
due_client None = subjects.Nothing
due_client (Some c) = subjects.Client c

abbrev pub due_waiting_client : Option Waiter → TickSubject
due_waiting_client None = subjects.Nothing
due_waiting_client (Some v) = due_client (client_of v)

abbrev pub due_in : State → Option Exchange → TickSubject
due_in w None = due_waiting_client (due_waiter w)
due_in w (Some x) = subjects.Exchange (exchange_of x (due_waiting w))

-- the exchange that is due, or else the client
abbrev pub due_of : State → TickSubject
due_of w = due_in w (due_exchange w)

-- ---- what is made of it

-- the answer that the exchange then has is the proxy's own, for this cause, or the origin's
abbrev pub answering_for : State → ℕ → Message → Exchange → Answering
answering_for w now m x =
    if (answer_for w now m x).own then Own (gateway_of m (Some x)) else Passed

abbrev pub answering_awaited : State → ℕ → Message → Option Exchange → Answering
answering_awaited w now m None = Passed
answering_awaited w now m (Some x) = answering_for w now m x

abbrev pub answering_with : State → ℕ → Endpoint → Message → Answering
answering_with w now from m =
    if is_reset m.kind then Own Reset
    else (if is_response m.code then answering_awaited w now m (awaited w from m) else Passed)

abbrev pub answering_read : State → ℕ → Endpoint → Result Message DecodeError → Answering
answering_read w now from (Ok m) = answering_with w now from m
answering_read w now from (Err e) = Passed

abbrev pub answering_of : State → ℕ → Event → Answering
answering_of w now (arrival from bytes) = answering_read w now from (read_message bytes)
answering_of w now tick = Passed
