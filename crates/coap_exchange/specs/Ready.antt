-- Exchanges and the clients that wait for them, and which of those is to be served first.
use Rattle.std.specs.Prelude.{◌≡◌, ℕ, true, Option, Some, None}
use Rattle.coap_pending.specs.declared.exchange.Exchange.{Exchange}
use Rattle.coap_pending.specs.declared.waiter.Waiter.{Waiter}
use Rattle.coap_exchange.specs.Answered.{due_at, got_in}
use Rattle.ordered_index.specs.Ordered.{Pair, OrderedIndex, is_in}
use Rattle.coap_pending.specs.Table.{Table, first_that}
use Rattle.coap_pending.specs.Waiters.{waits_for}

-- what is under way: exchanges, and those that wait for them
pub record Tables : Type 0 where
  pub exchanges : Table Exchange
  pub waiters : Table Waiter

-- a waiter that is to be served since this moment, if there are both
abbrev pub ready_of : Option ℕ → Option ℕ → Option Pair
ready_of None number = None
ready_of (Some moment) number = due_at moment number

-- the moment when the answer of exchange `number` came, and the first that waits for it
abbrev pub ready_at : Tables → ℕ → Option Pair
ready_at t number =
    ready_of (got_in number t.exchanges.items) (first_that (waits_for number) t.waiters.items)

-- `ready_at` of an exchange, if there is one
abbrev pub ready_in : Tables → Option ℕ → Option Pair
ready_in t None = None
ready_in t (Some number) = ready_at t number

-- the index holds `ready_at` of each exchange, and nothing else
pub record AreReady (t : Tables) (index : OrderedIndex) : Type 0 where
  pub only : (p : Pair) → is_in p index.pairs ≡ true → (e : ℕ) × (ready_at t e ≡ Some p)
  pub all : (e : ℕ) (p : Pair) → ready_at t e ≡ Some p → is_in p index.pairs ≡ true
  pub limit : index.limit ≡ t.waiters.limit
