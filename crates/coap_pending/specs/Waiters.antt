-- Waiters: requests that wait for an exchange, or whose answer isn't acknowledged yet.
use Rattle.std.specs.Prelude.{◌≤◌, ℕ, ◌-◌, ◌^◌, ◌==◌, ◌&&◌, Bool, true, false, nat_lt, List, [], Option, Some, None, IfSome}
use Rattle.std.specs.List.{AllByRecursion}
use Rattle.coap_endpoint.specs.declared.endpoint.Endpoint.{Endpoint}
use Rattle.coap_endpoint.specs.Endpoint.{same_endpoint}
use Rattle.coap_store.specs.declared.answer.Answer.{Answer}
use Rattle.coap_pending.specs.declared.exchange.Exchange.{Exchange}
use Rattle.coap_pending.specs.declared.timer.Fire.{Fire}
use Rattle.coap_pending.specs.declared.timer.Fire.TheVariants.{GiveUp}
use Rattle.coap_pending.specs.declared.timer.Timer.{Timer}
use Rattle.coap_pending.specs.declared.waiter.Joining.{Joining}
use Rattle.coap_pending.specs.declared.waiter.Waiter.{Waiter}
use Rattle.coap_pending.specs.declared.waiter.WaiterTransition.{WaiterTransition}
use Rattle.coap_pending.specs.declared.waiter.WaiterTransition.TheVariants.{Deliver, Fire as fire}
use Rattle.coap_pending.specs.declared.waiter.WaiterState.{WaiterState}
use Rattle.coap_pending.specs.declared.waiter.WaiterState.TheVariants.{Waiting, Delivering}
use Rattle.coap_pending.specs.Exchanges.{answer_in}
use Rattle.coap_pending.specs.Table.{Numbered}
use Rattle.coap_pending.specs.Timers.{fire_of, fired, IsShort}

-- ---- states

abbrev pub exchange_of : WaiterState → Option ℕ
exchange_of (Waiting exchange) = Some exchange
exchange_of (Delivering bytes id timer) = None

abbrev pub is_waiting_state : WaiterState → Bool
is_waiting_state (Waiting exchange) = true
is_waiting_state (Delivering bytes id timer) = false

abbrev pub waits_in_state : ℕ → WaiterState → Bool
waits_in_state number (Waiting exchange) = exchange == number
waits_in_state number (Delivering bytes id timer) = false

-- it is a request of this client: address and port are those of its source
abbrev pub is_of : Endpoint → Waiter → Bool
is_of client w = same_endpoint w.client client

-- it waits for an exchange
abbrev pub is_waiting : Waiter → Bool
is_waiting w = is_waiting_state w.state

-- it waits for the exchange of this number
abbrev pub waits_for : ℕ → Waiter → Bool
waits_for number w = waits_in_state number w.state

-- the answer was sent with this id, less than 247,000 ms ago
abbrev pub is_delivered_as : ℕ → ℕ → WaiterState → Bool
is_delivered_as id now (Waiting exchange) = false
is_delivered_as id now (Delivering bytes other timer) =
    (other == id) && nat_lt (now - timer.started) 247000

-- the answer was sent to this endpoint with this id, less than 247,000 ms ago (RFC 7252, 4.4)
abbrev pub was_sent_as : Endpoint → ℕ → ℕ → Waiter → Bool
was_sent_as at id now w = same_endpoint w.client at && is_delivered_as id now w.state

-- the exchange that a waiter of a table waits for
abbrev pub awaited_by : Option Waiter → Option ℕ
awaited_by None = None
awaited_by (Some w) = exchange_of w.state

-- a waiter that just joined
abbrev pub joined : Joining → Waiter
joined joining =
    record {
      client = joining.client;
      kind = joining.kind;
      token = joining.token;
      tags = joining.tags;
      state = Waiting joining.exchange;
    }

-- ---- changes

-- its client is sent the answer; its token and tags are no longer needed
abbrev pub delivered : List ℕ → ℕ → Timer → Waiter → Waiter
delivered bytes id timer w =
    record w { token = []; tags = []; state = Delivering bytes id timer }

-- its timer is due
abbrev pub fired_state : ℕ → WaiterState → WaiterState
fired_state now (Waiting exchange) = Waiting exchange
fired_state now (Delivering bytes id timer) = Delivering bytes id (fired now timer)

abbrev pub fired_waiter : ℕ → Waiter → Waiter
fired_waiter now w = record w { state = fired_state now w.state }

-- what its timer calls for when it is due
abbrev pub fire_of_state : ℕ → WaiterState → Fire
fire_of_state now (Waiting exchange) = GiveUp
fire_of_state now (Delivering bytes id timer) = fire_of now timer

abbrev pub fire_at : ℕ → Option Waiter → Fire
fire_at now None = GiveUp
fire_at now (Some w) = fire_of_state now w.state

abbrev pub after_transition : WaiterTransition → Waiter → Waiter
after_transition (Deliver bytes id timer) = delivered bytes id timer
after_transition (fire now) = fired_waiter now

-- ---- when it is due

abbrev pub moment_of : Option Answer → Option ℕ
moment_of None = None
moment_of (Some a) = Some a.got

-- it is due when its exchange's answer comes, or at the end of the current timeout
abbrev pub due_in : WaiterState → List (Numbered Exchange) → Option ℕ
due_in (Waiting exchange) exchanges = moment_of (answer_in exchange exchanges)
due_in (Delivering bytes id timer) exchanges = Some timer.due

abbrev pub due_after : List (Numbered Exchange) → Waiter → Option ℕ
due_after exchanges w = due_in w.state exchanges

-- ---- what a change requires

-- it was sent the response, and the current timeout has ended
abbrev pub HasEnded : ℕ → WaiterState → Type 0
HasEnded now (Waiting exchange) = ⊥
HasEnded now (Delivering bytes id timer) = timer.due ≤ now

abbrev pub IsDue : ℕ → Waiter → Type 0
IsDue now w = HasEnded now w.state

-- its timer can be fired: the timeout has ended, and doubling it stays in range
abbrev pub CanFire : ℕ → WaiterState → Type 0
CanFire now (Waiting exchange) = Unit {0}
CanFire now (Delivering bytes id timer) = (timer.due ≤ now) × (timer.timeout ≤ 2 ^ 32)

abbrev pub CanChange : WaiterTransition → Waiter → Type 0
CanChange (Deliver bytes id timer) w = Unit {0}
CanChange (fire now) w = (now ≤ 2 ^ 62) × CanFire now w.state

-- An update is possible: a first timeout is at most 3,000 ms, and only a timer that has ended is
-- fired. Any waiter can be removed.
abbrev pub CanUpdate : Option WaiterTransition → Option Waiter → Type 0
CanUpdate None found = Unit {0}
CanUpdate (Some (Deliver bytes id timer)) found = timer.timeout ≤ 3000
CanUpdate (Some (fire now)) found = (now ≤ 2 ^ 62) × IfSome found (IsDue now)

-- ---- invariants of a table of waiters

-- timeouts stay short
abbrev pub IsStateShort : WaiterState → Type 0
IsStateShort (Waiting exchange) = Unit {0}
IsStateShort (Delivering bytes id timer) = IsShort timer

abbrev pub AreShort : List (Numbered Waiter) → Type 0
AreShort waiters = AllByRecursion (λ w. IsStateShort w.1.state) waiters
