-- Waiters that were sent their response are found by its Message ID.
use Rattle.std.proofs.Common.{◌≡◌, ℕ, ◌≤◌, ◌-◌, ◌&&◌, Bool, true, false, eqb, List, refl, sym}
use Rattle.std.proofs.lemmas.Bool.{eqb-true, eq-eqb}
use Rattle.std.specs.Prelude.{nat_lt}
use Rattle.coap_endpoint.specs.declared.endpoint.Endpoint.{Endpoint}
use Rattle.coap_endpoint.specs.Endpoint.{same_endpoint}
use Rattle.coap_pending.specs.declared.waiter.Waiter.{Waiter}
use Rattle.coap_pending.specs.declared.waiter.WaiterState.{WaiterState}
use Rattle.coap_pending.specs.declared.waiter.WaiterState.TheVariants.{Waiting, Delivering}
use Rattle.coap_pending.specs.declared.exchange.Exchange.{Exchange}
use Rattle.coap_pending.specs.Due.{sooner, as_due}
use Rattle.coap_exchange.specs.WaiterIndex.{answered_in, answered_of, end_in, end_of, id_in, id_of}
use Rattle.ordered_index.specs.Ordered.{is_key}
use Rattle.coap_pending.specs.Table.{Numbered, Table, item_at, passes}
use Rattle.coap_pending.specs.Waiters.{due_after, due_in, is_delivered_as, was_sent_as}

and_false : (b : Bool) → (b && false) ≡ false
and_false true = refl
and_false false = refl

-- who was sent a response with another id, or none, wasn't sent this one
pub unsent : (at : Endpoint) (id now : ℕ) (w : Waiter) → is_key id (id_of w) ≡ false → was_sent_as at id now w ≡ false
unsent at id now w e = rw (go w.state e) (and_false (same_endpoint w.client at))
  where
    go : (s : WaiterState) → is_key id (id_in s) ≡ false → is_delivered_as id now s ≡ false
    go (Waiting x) f = refl
    go (Delivering bytes other timer) f = turn (eqb other id) refl
      where
        turn : (b : Bool) → eqb other id ≡ b → (b && nat_lt (now - timer.started) 247000) ≡ false
        turn false g = refl
        turn true g = absurd (let same : eqb id other ≡ true = eq-eqb id other (sym (eqb-true other id g)) in cc)

-- no waiter up to this number was sent this response
abbrev pub NoneSentUpTo : Endpoint → ℕ → ℕ → Table Waiter → ℕ → Type 0
NoneSentUpTo at id now t after = (m : ℕ) → m ≤ after → passes (was_sent_as at id now) (item_at m t.items) ≡ false

-- a waiter is due for the answer of its exchange, or for the end of the timeout that runs
pub due-parts : (exchanges : List (Numbered Exchange)) (n : ℕ) (w : Waiter) → as_due n (due_after exchanges w) ≡ sooner (as_due n (end_of w)) (as_due n (answered_of exchanges w))
due-parts exchanges n w = go w.state
  where
    go : (s : WaiterState) → as_due n (due_in s exchanges) ≡ sooner (as_due n (end_in s)) (as_due n (answered_in exchanges s))
    go (Waiting x) = refl
    go (Delivering bytes id timer) = refl
