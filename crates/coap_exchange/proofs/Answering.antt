-- Who is due because an answer has come waits for its exchange.
use Rattle.std.proofs.Common.{◌≡◌, ℕ, List, Some, refl}
use Rattle.coap_pending.specs.declared.exchange.Exchange.{Exchange}
use Rattle.coap_pending.specs.declared.waiter.Waiter.{Waiter}
use Rattle.coap_pending.specs.declared.waiter.WaiterState.{WaiterState}
use Rattle.coap_pending.specs.declared.waiter.WaiterState.TheVariants.{Waiting, Delivering}
use Rattle.coap_exchange.specs.Answered.{awaited_of, got_in}
use Rattle.coap_exchange.specs.WaiterIndex.{answered_in, answered_of}
use Rattle.coap_pending.specs.Table.{Numbered}
use Rattle.coap_pending.specs.Waiters.{exchange_of}

-- who is due for an answer waits for its exchange
pub answered-waits : (exchanges : List (Numbered Exchange)) (w : Waiter) (at : ℕ) → answered_of exchanges w ≡ Some at → (e : ℕ) × (awaited_of w ≡ Some e) × (got_in e exchanges ≡ Some at)
answered-waits exchanges w at h = go w.state h
  where
    go : (s : WaiterState) → answered_in exchanges s ≡ Some at → (e : ℕ) × (exchange_of s ≡ Some e) × (got_in e exchanges ≡ Some at)
    go (Waiting e) g = (e, refl, g)
    go (Delivering bytes id timer) g = absurd cc

-- what is answered for one that waits is its exchange's
pub waits-answered : (exchanges : List (Numbered Exchange)) (w : Waiter) (e : ℕ) → awaited_of w ≡ Some e → answered_of exchanges w ≡ got_in e exchanges
waits-answered exchanges w e h = go w.state h
  where
    go : (s : WaiterState) → exchange_of s ≡ Some e → answered_in exchanges s ≡ got_in e exchanges
    go (Waiting q) g = let same : q ≡ e = cc in rw same refl
    go (Delivering bytes id timer) g = absurd cc
