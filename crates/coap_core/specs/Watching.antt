-- What a proxy tells those who watch it: what its next tick is about, and what a message would
-- meet.
use Rattle.std.specs.Prelude.{ℕ, ◌-◌, Option, None, Some}
use Rattle.coap_endpoint.specs.declared.endpoint.Endpoint.{Endpoint}
use Rattle.coap_pending.specs.declared.exchange.Exchange.{Exchange}
use Rattle.coap_pending.specs.declared.waiter.Waiter.{Waiter}
use Rattle.coap_pending.specs.Exchanges.{is_queued}
use Rattle.coap_pending.specs.Ids.{left_of}
use Rattle.coap_pending.specs.Table.{Numbered, count, item_at}
use Rattle.coap_pending.specs.Waiters.{exchange_of, is_waiting, waits_for}
use Rattle.coap_message.specs.Message.{Message}
use Rattle.coap_model.specs.declared.due.DueItem.{DueItem}
use Rattle.coap_model.specs.declared.due.DueItem.TheVariants.{OfExchange, OfWaiter}
use Rattle.coap_model.specs.Responses.{awaiting}
use Rattle.coap_model.specs.State.{State}
use Rattle.coap_model.specs.Ticks.{item_due}

-- ---- what is due first

-- the number of the exchange that a client waits for, if it still waits for its answer
abbrev pub number_awaited : Option Waiter → Option ℕ
number_awaited None = None
number_awaited (Some v) = exchange_of v.state

-- the number of the exchange that an item is about: itself, or the one that a client waits for
abbrev pub number_of_item : State → Option DueItem → Option ℕ
number_of_item w None = None
number_of_item w (Some (OfExchange at number)) = Some number
number_of_item w (Some (OfWaiter at number)) = number_awaited (item_at number w.waiters)

abbrev pub exchange_numbered : State → Option ℕ → Option Exchange
exchange_numbered w None = None
exchange_numbered w (Some number) = item_at number w.exchanges

-- the exchange that is due, or whose answer a client is due to be sent
abbrev pub due_exchange : State → Option Exchange
due_exchange w = exchange_numbered w (number_of_item w (item_due w))

abbrev pub waiting_at : State → Option ℕ → ℕ
waiting_at w None = 0
waiting_at w (Some number) = count (waits_for number) w.waiters

-- how many waiters wait for that exchange
abbrev pub due_waiting : State → ℕ
due_waiting w = waiting_at w (number_of_item w (item_due w))

abbrev pub waiter_of_item : State → Option DueItem → Option Waiter
waiter_of_item w None = None
waiter_of_item w (Some (OfExchange at number)) = None
waiter_of_item w (Some (OfWaiter at number)) = item_at number w.waiters

-- the waiter that is due
abbrev pub due_waiter : State → Option Waiter
due_waiter w = waiter_of_item w (item_due w)

-- ---- what a message meets

abbrev pub number_found : Option (Numbered Exchange) → Option ℕ
number_found None = None
number_found (Some x) = Some x.0

-- the exchange that awaits this response from this endpoint
abbrev pub awaited : State → Endpoint → Message → Option Exchange
awaited w source m = exchange_numbered w (number_found (awaiting w source m))

-- the number of Message IDs that are left at the moment of the last step, without those that are
-- reserved for waiters and for requests
abbrev pub free_ids : State → ℕ
free_ids w = left_of w.last w.ids - count is_waiting w.waiters - count is_queued w.exchanges
