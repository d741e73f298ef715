-- What is due, by its number, and the steps of it.
use Rattle.std.specs.Prelude.{◌≡◌, ℕ, ◌≤◌, Bool, List, [], Option, Some, None, if◌then◌else◌}
use Rattle.coap_message.specs.Spelling.{spelling}
use Rattle.coap_pending.specs.declared.exchange.Exchange.{Exchange}
use Rattle.coap_pending.specs.Exchanges.{answered, due_among, fire_of_sending}
use Rattle.coap_pending.specs.Exchanges as exchanges
use Rattle.coap_pending.specs.declared.waiter.Waiter.{Waiter}
use Rattle.coap_pending.specs.declared.waiter.WaiterState.{WaiterState}
use Rattle.coap_pending.specs.declared.waiter.WaiterState.TheVariants.{Waiting, Delivering}
use Rattle.coap_pending.specs.Table.{Numbered, changed_at, item_at, without}
use Rattle.coap_pending.specs.Timers.{started, fire_of}
use Rattle.coap_pending.specs.Waiters.{delivered, due_after}
use Rattle.coap_forward.specs.Messages.{is_con}
use Rattle.coap_store.specs.declared.answer.Answer.{Answer}
use Rattle.coap_model.specs.State.{State, Step, next_id}
use Rattle.coap_core.specs.declared.ticks.Delivery.{Delivery}
use Rattle.coap_core.specs.declared.timing.Timing.{Timing}
use Rattle.coap_model.specs.Ticks.{given_to, idles, sends, on_request_timeout, on_awaited, on_delivery_timeout, on_exchange, on_waiter}

-- there is a moment, and it is this one, or was before
pub record HasCome (moment : Option ℕ) (now : ℕ) : Type 0 where
  pub at : ℕ
  pub due : moment ≡ Some at
  pub past : at ≤ now

-- an exchange is due at this moment or was due before
abbrev pub IsExchangeDue : State → ℕ → Exchange → Type 0
IsExchangeDue w now x =
    HasCome
    (due_among w.setting.limits.nstart w.setting.limits.exchange_ms w.exchanges x) now

-- the same for a waiter
abbrev pub IsWaiterDue : State → ℕ → Waiter → Type 0
IsWaiterDue w now v = HasCome (due_after w.exchanges v) now

-- a waiter waits for the exchange of this delivery, which has its endpoint and its type
pub record IsServed (d : Delivery) (v : Waiter) : Type 0 where
  pub waits : v.state ≡ Waiting d.exchange
  pub to : d.waiter.to ≡ v.client
  pub kind : d.kind ≡ v.kind

-- there is an exchange with this number, and its answer has come
pub record HasAnswer (number : ℕ) (items : List (Numbered Exchange)) : Type 0 where
  pub exchange : Exchange
  pub found : item_at number items ≡ Some exchange
  pub answer : Answer
  pub answered : exchanges.answer_at exchange ≡ Some answer

-- the step of an item that is looked up: if there is none, nothing is done
abbrev pub step_with : {A : Type 0} → State → ℕ → (A → Step) → Option A → Step
step_with w now step None = idles w now
step_with w now step (Some a) = step a

-- the step of a tick in which the exchange with this number is due
abbrev pub exchange_at : State → Timing → ℕ → Step
exchange_at w t number = on_exchange w t.now t.draw number (item_at number w.exchanges)

-- the same for the waiter with this number
abbrev pub waiter_at : State → Timing → ℕ → Step
waiter_at w t number = on_waiter w t.now t.draw number (item_at number w.waiters)

-- the request of the exchange with this number is sent
abbrev pub sending_at : State → Timing → ℕ → Step
sending_at w t number =
    step_with w t.now (sends w t.now t.draw number) (item_at number w.exchanges)

-- its timeout has ended
abbrev pub request_timeout_at : State → ℕ → ℕ → Step
request_timeout_at w now number =
    step_with w now (λ x. on_request_timeout w now number x (fire_of_sending now x.sending))
    (item_at number w.exchanges)

-- a waiter is sent the answer of its exchange
abbrev pub delivery_at : State → Timing → Delivery → Step
delivery_at w t d =
    step_with w t.now
    (λ v.
    on_awaited w t.now t.draw d.waiter.number v d.exchange (item_at d.exchange w.exchanges))
    (item_at d.waiter.number w.waiters)

-- the waiters, after this one was sent these bytes with the next id
abbrev pub waiters_after : State → Timing → Delivery → List ℕ → List (Numbered Waiter)
waiters_after w t d bytes =
    if is_con d.kind
    then changed_at d.waiter.number (delivered bytes (next_id w) (started t.now t.draw)) w.waiters
    else without d.waiter.number w.waiters

-- what a waiter is sent for the answer of this exchange
abbrev pub given_for : State → ℕ → Waiter → Bool → Option Answer → List ℕ
given_for w now v to_get None = []
given_for w now v to_get (Some a) = spelling (given_to w now v to_get a)

abbrev pub given_of : State → ℕ → Waiter → Option Exchange → List ℕ
given_of w now v None = []
given_of w now v (Some x) = given_for w now v x.is_get (exchanges.answer_at x)

abbrev pub given_at : State → ℕ → Waiter → ℕ → List ℕ
given_at w now v exchange = given_of w now v (item_at exchange w.exchanges)

-- the current timeout of a waiter that was sent its answer has ended
abbrev pub unheard : State → ℕ → ℕ → Waiter → WaiterState → Step
unheard w now number v (Waiting exchange) = idles w now
unheard w now number v (Delivering bytes id timer) =
    on_delivery_timeout w now number v bytes (fire_of now timer)

-- the same for the waiter with this number
abbrev pub delivery_timeout_at : State → ℕ → ℕ → Step
delivery_timeout_at w now number =
    step_with w now (λ v. unheard w now number v v.state) (item_at number w.waiters)

-- the encoded request of an exchange
abbrev pub form_of : Option Exchange → List ℕ
form_of None = []
form_of (Some x) = x.form

abbrev pub form_at : ℕ → List (Numbered Exchange) → List ℕ
form_at number exchanges = form_of (item_at number exchanges)

-- the encoded response that a waiter was sent
abbrev pub answer_in_state : WaiterState → List ℕ
answer_in_state (Waiting exchange) = []
answer_in_state (Delivering bytes id timer) = bytes

abbrev pub answer_given : Option Waiter → List ℕ
answer_given None = []
answer_given (Some v) = answer_in_state v.state

abbrev pub answer_at : ℕ → List (Numbered Waiter) → List ℕ
answer_at number waiters = answer_given (item_at number waiters)
