-- The step of a tick: what is due is done, one thing at a time (RFC 7252, 4.2 and 4.7).
use Rattle.std.specs.Prelude.{ℕ, ◌==◌, Bool, nat_le, if◌then◌else◌, List, Option, Some, None, option_map}
use Rattle.coap_store.specs.declared.answer.Answer.{Answer}
use Rattle.coap_pending.specs.declared.exchange.ExchangeState.{ExchangeState}
use Rattle.coap_pending.specs.declared.exchange.ExchangeState.TheVariants.{Queued, Sent, Acked, Done}
use Rattle.coap_pending.specs.declared.exchange.Exchange.{Exchange}
use Rattle.coap_pending.specs.declared.timer.Fire.{Fire}
use Rattle.coap_pending.specs.declared.timer.Fire.TheVariants.{Again, GiveUp}
use Rattle.coap_pending.specs.declared.waiter.Waiter.{Waiter}
use Rattle.coap_pending.specs.declared.waiter.WaiterState.{WaiterState}
use Rattle.coap_pending.specs.declared.waiter.WaiterState.TheVariants.{Waiting, Delivering}
use Rattle.coap_pending.specs.Due.{first_due}
use Rattle.coap_pending.specs.Exchanges.{deadline, due_among, answer_at, sent, fired_exchange, answered, fire_of_sending}
use Rattle.coap_pending.specs.Ids.{called}
use Rattle.coap_pending.specs.Table.{Numbered, item_at, changed_at, without, count}
use Rattle.coap_pending.specs.Timers.{started, fire_of}
use Rattle.coap_pending.specs.Waiters.{waits_for, delivered, fired_waiter, due_after}
use Rattle.coap_message.specs.Message.{Message}
use Rattle.coap_message.specs.Spelling.{spelling, with_id}
use Rattle.coap_model.specs.declared.due.DueItem.{DueItem}
use Rattle.coap_model.specs.declared.due.DueItem.TheVariants.{OfExchange, OfWaiter}
use Rattle.coap_model.specs.declared.report.Outcome.TheVariants as outcomes
use Rattle.coap_model.specs.declared.deed.Deed.TheVariants as deeds
use Rattle.coap_model.specs.declared.deed.Silence.{Silence}
use Rattle.coap_model.specs.declared.deed.Silence.TheVariants.{NotAcknowledged}
use Rattle.coap_model.specs.Deeds.{silence_of}
use Rattle.coap_forward.specs.Answers.{own_answer, gateway_timeout, shown_as}
use Rattle.coap_forward.specs.Messages.{is_con}
use Rattle.coap_model.specs.State.{State, Step, later, silent, says, next_id}

-- ---- what is due

-- the exchange that is due first, and the waiter that is due first
abbrev pub exchange_due : State → Option (ℕ × ℕ)
exchange_due w =
    first_due (due_among w.setting.limits.nstart w.setting.limits.exchange_ms w.exchanges)
    w.exchanges

abbrev pub waiter_due : State → Option (ℕ × ℕ)
waiter_due w = first_due (due_after w.exchanges) w.waiters

-- the one of these that is due first; if both are due at the same moment, the exchange
abbrev pub first_item : Option (ℕ × ℕ) → Option (ℕ × ℕ) → Option DueItem
first_item None None = None
first_item None (Some v) = Some (OfWaiter v.0 v.1)
first_item (Some x) None = Some (OfExchange x.0 x.1)
first_item (Some x) (Some v) =
    if nat_le x.0 v.0 then Some (OfExchange x.0 x.1) else Some (OfWaiter v.0 v.1)

abbrev pub item_due : State → Option DueItem
item_due w = first_item (exchange_due w) (waiter_due w)

abbrev pub moment_of : DueItem → ℕ
moment_of (OfExchange at number) = at
moment_of (OfWaiter at number) = at

abbrev pub next_due : State → Option ℕ
next_due w = option_map moment_of (item_due w)

abbrev pub if_due : ℕ → Option DueItem → Option DueItem
if_due now None = None
if_due now (Some i) = if nat_le (moment_of i) now then Some i else None

-- nothing is due
abbrev pub idles : State → ℕ → Step
idles w now = silent deeds.Idle (later w now)

-- ---- requests

-- the request is sent to its origin server with a new id, and will be retransmitted until it is
-- acknowledged or answered
abbrev pub sends : State → ℕ → ℕ → ℕ → Exchange → Step
sends w now draw number x =
    record {
      deed = deeds.Sent number;
      report = record { send = Some x.key.target.at; outcome = outcomes.SentRequest };
      bytes = with_id (next_id w) x.form;
      state = record (later w now) {
        exchanges =
            changed_at number
            (sent (record { asked = w.events; id = next_id w; timer = started now draw }))
            w.exchanges;
        ids = called now w.ids;
      };
    }

-- the request is retransmitted, with the same bytes
abbrev pub resends : State → ℕ → ℕ → Exchange → Step
resends w now number x =
    record {
      deed = deeds.Resent number;
      report = record { send = Some x.key.target.at; outcome = outcomes.Resent };
      bytes = x.form;
      state = record (later w now) {
        exchanges = changed_at number (fired_exchange now) w.exchanges;
      };
    }

-- no answer came in time: the proxy generates one (RFC 7252, 5.7.1)
abbrev pub gives_up : State → ℕ → ℕ → Silence → Step
gives_up w now number silence =
    silent (deeds.GaveUp number silence) (record (later w now) {
      exchanges = changed_at number (answered (own_answer now gateway_timeout)) w.exchanges;
    })

abbrev pub on_request_timeout : State → ℕ → ℕ → Exchange → Fire → Step
on_request_timeout w now number x Again = resends w now number x
on_request_timeout w now number x GiveUp = gives_up w now number NotAcknowledged

-- Before its deadline, a queued request is sent, and one that was sent is retransmitted. One that
-- was acknowledged isn't due before its deadline, and one that has its answer is never due, so the
-- last two cases never occur.
abbrev pub in_time : State → ℕ → ℕ → ℕ → Exchange → ExchangeState → Step
in_time w now draw number x Queued = sends w now draw number x
in_time w now draw number x Sent = on_request_timeout w now number x (fire_of_sending now x.sending)
in_time w now draw number x Acked = idles w now
in_time w now draw number x (Done a) = idles w now

-- an exchange that is due exists, so the first case never occurs
abbrev pub on_exchange : State → ℕ → ℕ → ℕ → Option Exchange → Step
on_exchange w now draw number None = idles w now
on_exchange w now draw number (Some x) =
    if nat_le (deadline w.setting.limits.exchange_ms x) now
    then gives_up w now number (silence_of x.state)
    else in_time w now draw number x x.state

-- ---- waiters

-- an exchange for which no waiter waits any more is removed
abbrev pub without_idle :
    ℕ → List (Numbered Waiter) → List (Numbered Exchange) → List (Numbered Exchange)
without_idle number waiters exchanges =
    if count (waits_for number) waiters == 0 then without number exchanges else exchanges

-- what a client is sent for the answer of its exchange, which may answer a GET: a message of the
-- type of its request, with a new id
abbrev pub given_to : State → ℕ → Waiter → Bool → Answer → Message
given_to w now v to_get a = shown_as v.kind to_get now a (next_id w) v.token v.tags

-- the waiters, after one was sent this message: a Confirmable one will be retransmitted until it is
-- acknowledged
abbrev pub waiters_after : State → ℕ → ℕ → ℕ → Message → List (Numbered Waiter)
waiters_after w now draw number m =
    if is_con m.kind
    then changed_at number (delivered (spelling m) m.id (started now draw)) w.waiters
    else without number w.waiters

-- the client is sent a message, after which these waiters are left
abbrev pub tells :
    State → ℕ → ℕ → Waiter → ℕ → Message → List (Numbered Waiter) → Step
tells w now number v exchange m waiters =
    says (deeds.Delivered number exchange) v.client m (record (later w now) {
      waiters = waiters;
      exchanges = without_idle exchange waiters w.exchanges;
      ids = called now w.ids;
    })

-- the client is sent the answer of its exchange
abbrev pub delivers : State → ℕ → ℕ → ℕ → Waiter → ℕ → Bool → Answer → Step
delivers w now draw number v exchange to_get a =
    tells w now number v exchange (given_to w now v to_get a)
    (waiters_after w now draw number (given_to w now v to_get a))

-- a waiter that waits is due when its exchange has its answer, so the first cases of this and of
-- `on_awaited` never occur
abbrev pub on_answer : State → ℕ → ℕ → ℕ → Waiter → ℕ → Bool → Option Answer → Step
on_answer w now draw number v exchange to_get None = idles w now
on_answer w now draw number v exchange to_get (Some a) =
    delivers w now draw number v exchange to_get a

abbrev pub on_awaited : State → ℕ → ℕ → ℕ → Waiter → ℕ → Option Exchange → Step
on_awaited w now draw number v exchange None = idles w now
on_awaited w now draw number v exchange (Some x) =
    on_answer w now draw number v exchange x.is_get (answer_at x)

-- the answer is retransmitted, with the same bytes
abbrev pub redelivers : State → ℕ → ℕ → Waiter → List ℕ → Step
redelivers w now number v bytes =
    record {
      deed = deeds.Redelivered number;
      report = record { send = Some v.client; outcome = outcomes.Resent };
      bytes = bytes;
      state = record (later w now) {
        waiters = changed_at number (fired_waiter now) w.waiters;
      };
    }

-- the client didn't acknowledge it in time
abbrev pub abandons : State → ℕ → ℕ → Step
abandons w now number =
    silent (deeds.Abandoned number) (record (later w now) { waiters = without number w.waiters })

abbrev pub on_delivery_timeout : State → ℕ → ℕ → Waiter → List ℕ → Fire → Step
on_delivery_timeout w now number v bytes Again = redelivers w now number v bytes
on_delivery_timeout w now number v bytes GiveUp = abandons w now number

-- a waiter that waits is sent its answer; one that was sent it is sent it again, or is given up
abbrev pub on_waiting : State → ℕ → ℕ → ℕ → Waiter → WaiterState → Step
on_waiting w now draw number v (Waiting exchange) =
    on_awaited w now draw number v exchange (item_at exchange w.exchanges)
on_waiting w now draw number v (Delivering bytes id timer) =
    on_delivery_timeout w now number v bytes (fire_of now timer)

-- a waiter that is due exists, so the first case never occurs
abbrev pub on_waiter : State → ℕ → ℕ → ℕ → Option Waiter → Step
on_waiter w now draw number None = idles w now
on_waiter w now draw number (Some v) = on_waiting w now draw number v v.state

-- ---- what is done

abbrev pub on_item : State → ℕ → ℕ → Option DueItem → Step
on_item w now draw None = idles w now
on_item w now draw (Some (OfExchange at number)) =
    on_exchange w now draw number (item_at number w.exchanges)
on_item w now draw (Some (OfWaiter at number)) =
    on_waiter w now draw number (item_at number w.waiters)

abbrev pub on_tick : State → ℕ → ℕ → Step
on_tick w now draw = on_item w now draw (if_due now (item_due w))
