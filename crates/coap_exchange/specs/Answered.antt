-- The moments of answers, and what is due because an answer has come.
use Rattle.std.specs.Prelude.{ℕ, List, Option, Some, None}
use Rattle.coap_pending.specs.declared.exchange.Exchange.{Exchange}
use Rattle.coap_pending.specs.declared.waiter.Waiter.{Waiter}
use Rattle.coap_pending.specs.Exchanges.{answer_at, answer_in}
use Rattle.ordered_index.specs.Ordered.{Pair}
use Rattle.coap_pending.specs.Table.{Numbered}
use Rattle.coap_pending.specs.Waiters.{exchange_of, moment_of}

-- the exchange that it waits for
abbrev pub awaited_of : Waiter → Option ℕ
awaited_of w = exchange_of w.state

-- the moment when its answer came
abbrev pub got_of : Exchange → Option ℕ
got_of x = moment_of (answer_at x)

-- the moment when the answer of exchange `number` came
abbrev pub got_in : ℕ → List (Numbered Exchange) → Option ℕ
got_in number exchanges = moment_of (answer_in number exchanges)

-- `got_in` of an exchange, if there is one
abbrev pub got_by : Option ℕ → List (Numbered Exchange) → Option ℕ
got_by None exchanges = None
got_by (Some number) exchanges = got_in number exchanges

-- what is due at a moment under a number
abbrev pub due_at : ℕ → Option ℕ → Option Pair
due_at moment None = None
due_at moment (Some number) = Some (moment, number)
