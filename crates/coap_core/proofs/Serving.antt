-- What is done with a client that is due: it is given its answer, given it again, or given up.
use Rattle.std.proofs.Common.{◌≡◌, ℕ, ◌+◌, ◌*◌, ◌/◌, ◌%◌, ◌<◌, ◌≤◌, Bool, true, false, cond, eqb, length, Some, refl, sym, ap, arith}
use Rattle.std.proofs.lemmas.Bool.{eq-eqb}
use Rattle.coap_message.specs.declared.kind.Kind.{Kind}
use Rattle.coap_message.specs.declared.kind.Kind.TheVariants.{Con, Non, Ack, Rst}
use Rattle.coap_message.specs.Kind.{kind_number, kind_of}
use Rattle.coap_message.specs.Message.{Message}
use Rattle.coap_message.specs.Spelling.{spelling}
use Rattle.coap_pending.specs.declared.timer.Fire.TheVariants.{Again, GiveUp}
use Rattle.coap_pending.specs.declared.timer.Timer.{Timer}
use Rattle.coap_pending.specs.declared.waiter.Waiter.{Waiter}
use Rattle.coap_pending.specs.declared.waiter.WaiterState.{WaiterState}
use Rattle.coap_pending.specs.declared.waiter.WaiterState.TheVariants.{Waiting, Delivering}
use Rattle.coap_pending.specs.Table.{item_at}
use Rattle.coap_pending.specs.Timers.{goes_on, sent_again}
use Rattle.coap_pending.specs.Waiters.{HasEnded, IsDue, fire_of_state, fired_state, fired_waiter, is_waiting_state}
use Rattle.coap_forward.specs.Messages.{is_con}
use Rattle.coap_model.specs.History.{is_con_datagram}
use Rattle.coap_model.specs.Ticks.{abandons, redelivers, on_delivery_timeout}
use Rattle.coap_model.specs.State.{State}
use Rattle.coap_core.specs.Dues.{answer_in_state, unheard, delivery_timeout_at}

-- ---- what is done where the timeout has ended

module _ (w : State) (now number : ℕ) (v : Waiter) (found : item_at number w.waiters ≡ Some v) where
  -- the answer is sent again
  pub again-step : Again ≡ fire_of_state now v.state → delivery_timeout_at w now number ≡ redelivers w now number v (answer_in_state v.state)
  again-step again = rw found (go v.state again)
    where
      go : (s : WaiterState) → Again ≡ fire_of_state now s → unheard w now number v s ≡ redelivers w now number v (answer_in_state s)
      go (Waiting exchange) e = absurd cc
      go (Delivering bytes id timer) e = ap (on_delivery_timeout w now number v bytes) (sym e)

  -- the client is given up
  pub over-step : IsDue now v → GiveUp ≡ fire_of_state now v.state → delivery_timeout_at w now number ≡ abandons w now number
  over-step due over = rw found (go v.state due over)
    where
      go : (s : WaiterState) → IsDue now (record v { state = s }) → GiveUp ≡ fire_of_state now s → unheard w now number v s ≡ abandons w now number
      go (Waiting exchange) d e = absurd d
      go (Delivering bytes id timer) d e = ap (on_delivery_timeout w now number v bytes) (sym e)

-- a timer that is due leaves the answer as it is
pub fired-answer : (now : ℕ) (s : WaiterState) → answer_in_state (fired_state now s) ≡ answer_in_state s
fired-answer now (Waiting exchange) = refl
fired-answer now (Delivering bytes id timer) = refl

-- and the client still doesn't wait
pub fired-told : (now : ℕ) (s : WaiterState) → HasEnded now s → is_waiting_state (fired_state now s) ≡ false
fired-told now (Waiting exchange) ended = absurd ended
fired-told now (Delivering bytes id timer) ended = refl

-- one that doesn't go on leaves the client as it is
pub fired-same : (now : ℕ) (v : Waiter) → GiveUp ≡ fire_of_state now v.state → fired_waiter now v ≡ v
fired-same now v e = let p = go v.state e in λ i. record v { state = p i }
  where
    timed : (t : Timer) (b : Bool) → GiveUp ≡ cond b Again GiveUp → cond b (sent_again now t) t ≡ t
    timed t true f = absurd cc
    timed t false f = refl

    go : (s : WaiterState) → GiveUp ≡ fire_of_state now s → fired_state now s ≡ s
    go (Waiting exchange) f = refl
    go (Delivering bytes id timer) f = ap (Delivering bytes id) (timed timer (goes_on now timer) f)

-- ---- memory

-- the type of a message stands in two bits
number-below : (k : Kind) → kind_number k < 4
number-below Con = omega arith
number-below Non = omega arith
number-below Ack = omega arith
number-below Rst = omega arith

-- and is read off them
kind-again : (k : Kind) → kind_of (kind_number k) ≡ k
kind-again Con = refl
kind-again Non = refl
kind-again Ack = refl
kind-again Rst = refl

-- what a message spells is Confirmable where the message is
pub con-spelled : (m : Message) → length m.token ≤ 8 → is_con_datagram (spelling m) ≡ is_con m.kind
unfolding spelling
con-spelled m token =
    let kind = number-below m.kind in
    let version : eqb ((64 + 16 * kind_number m.kind + length m.token) / 64) 1 ≡ true = eq-eqb _ _ (omega arith) in
    let bits : (64 + 16 * kind_number m.kind + length m.token) / 16 % 4 ≡ kind_number m.kind = omega arith in
    rw (version, bits, kind-again m.kind) refl
