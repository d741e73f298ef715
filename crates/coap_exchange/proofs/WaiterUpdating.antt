-- One waiter changes or goes: what follows for what is kept beside the table.
use Rattle.std.proofs.Common.{◌≡◌, ℕ, ◌+◌, List, false, Option, Some, None, refl, ap, ◌∙◌, arith}
use Rattle.std.specs.Prelude.{IfSome}
use Rattle.ordered_index.specs.Ordered.{Pair}
use Rattle.coap_pending.specs.declared.waiter.Waiter.{Waiter}
use Rattle.coap_pending.specs.declared.waiter.WaiterTransition.{WaiterTransition}
use Rattle.coap_pending.specs.declared.waiter.WaiterTransition.TheVariants.{Deliver, Fire as fire}
use Rattle.coap_pending.specs.declared.waiter.WaiterState.{WaiterState}
use Rattle.coap_pending.specs.declared.waiter.WaiterState.TheVariants.{Waiting, Delivering}
use Rattle.coap_exchange.specs.Ready.{Tables}
use Rattle.coap_pending.specs.Table.{Numbered, Table, IsTable, count, item_at, passes}
use Rattle.coap_exchange.specs.Tally.{AreWaiters}
use Rattle.coap_exchange.specs.Updates.{updated, updated_at, Allows}
use Rattle.coap_pending.specs.Waiters.{awaited_by, after_transition, exchange_of, fired_state, is_waiting, is_waiting_state, AreShort, CanChange, CanUpdate, HasEnded}
use Rattle.coap_pending.proofs.Counts.{one_if}
use Rattle.coap_exchange.proofs.Readying.{AreElsewhere, WaitsAt, waiter-elsewhere, waits-its}
use Rattle.coap_exchange.proofs.Updating.{moves-updated, updated-at, updated-others}
use Rattle.coap_exchange.proofs.Waiting.{HaveCounted, fireable, short-delivered, short-fired, short-without, tallied-moved}

-- a change leaves the client
pub client-after : (change : WaiterTransition) (w : Waiter) → (after_transition change w).client ≡ w.client
client-after (Deliver bytes id timer) w = refl
client-after (fire now) w = refl

-- what may be updated can be changed so
pub updatable : (n : ℕ) (change : Option WaiterTransition) (xs : List (Numbered Waiter)) → AreShort xs → CanUpdate change (item_at n xs) → Allows CanChange change (item_at n xs)
updatable n None xs short can = tt
updatable n (Some (Deliver bytes id timer)) xs short can = go (item_at n xs)
  where
    go : (o : Option Waiter) → IfSome o (CanChange (Deliver bytes id timer))
    go None = tt
    go (Some w) = tt
updatable n (Some (fire now)) xs short can = fireable n now xs can.0 short can.1

-- who is updated waits no more
updated-off : (change : Option WaiterTransition) (o : Option Waiter) → CanUpdate change o → passes is_waiting (updated after_transition change o) ≡ false
updated-off None o can = refl
updated-off (Some (Deliver bytes id timer)) None can = refl
updated-off (Some (Deliver bytes id timer)) (Some w) can = refl
updated-off (Some (fire now)) None can = refl
updated-off (Some (fire now)) (Some w) can = go w.state can.1
  where
    go : (s : WaiterState) → HasEnded now s → is_waiting_state (fired_state now s) ≡ false
    go (Waiting e) ended = absurd ended
    go (Delivering bytes id timer) ended = refl

module _ (n : ℕ) (t : Table Waiter) (is : IsTable t) where
  -- as many wait as are counted
  waiting-updated : (change : Option WaiterTransition) (many fewer : ℕ) → many ≡ count is_waiting t.items → CanUpdate change (item_at n t.items) → fewer + one_if (passes is_waiting (item_at n t.items)) ≡ many → fewer ≡ count is_waiting (updated_at after_transition change n t.items)
  waiting-updated change many fewer are can counted =
      let moved = (moves-updated after_transition n t is change).counts is_waiting in
      let off : one_if (passes is_waiting (item_at n (updated_at after_transition change n t.items))) ≡ 0 = ap (λ (o : Option Waiter). one_if (passes is_waiting o)) (updated-at after_transition n change t.items) ∙ ap one_if (updated-off change (item_at n t.items) can) in
      omega arith

  -- timers stay short
  short-updated : (change : Option WaiterTransition) → CanUpdate change (item_at n t.items) → AreShort t.items → AreShort (updated_at after_transition change n t.items)
  short-updated None can are = short-without n t.items are
  short-updated (Some (Deliver bytes id timer)) can are = short-delivered n bytes id timer t.items can are
  short-updated (Some (fire now)) can are = short-fired n now t.items are

  -- so what is kept alongside them stays
  pub waiters-updated : (change : Option WaiterTransition) (many fewer : ℕ) (old new : List Pair) → AreWaiters t.items many old → CanUpdate change (item_at n t.items) → fewer + one_if (passes is_waiting (item_at n t.items)) ≡ many → HaveCounted old new (item_at n t.items) (updated after_transition change (item_at n t.items)) → AreWaiters (updated_at after_transition change n t.items) fewer new
  waiters-updated change many fewer old new are can counted have = record {
    waiting = waiting-updated change many fewer are.waiting can counted;
    tallied = tallied-moved n t.items (updated_at after_transition change n t.items) old new (moves-updated after_transition n t is change) are.tallied (rw (updated-at after_transition n change t.items) have);
    short = short-updated change can are.short;
  }

-- who waited at one exchange, or at none, still does
pub waits-updated : (at : Option ℕ) (change : Option WaiterTransition) (o : Option Waiter) → WaitsAt at o → WaitsAt at (updated after_transition change o)
waits-updated at None o waits = tt
waits-updated at (Some (Deliver bytes id timer)) None waits = tt
waits-updated at (Some (Deliver bytes id timer)) (Some w) waits = tt
waits-updated at (Some (fire now)) None waits = tt
waits-updated at (Some (fire now)) (Some w) waits = go w.state waits
  where
    go : (s : WaiterState) → IfSome (exchange_of s) (λ e. at ≡ Some e) → IfSome (exchange_of (fired_state now s)) (λ e. at ≡ Some e)
    go (Waiting e) h = h
    go (Delivering bytes id timer) h = tt

-- so nobody else's exchange is concerned
pub updated-elsewhere : (n : ℕ) (change : Option WaiterTransition) (t : Tables) (vs : Table Waiter) (at : Option ℕ) → IsTable t.waiters → IsTable vs → vs ≡ record t.waiters { items = updated_at after_transition change n t.waiters.items } → at ≡ awaited_by (item_at n t.waiters.items) → AreElsewhere t (record t { waiters = vs }) at
updated-elsewhere n change t vs at was is same awaits =
    let found = item_at n t.waiters.items in
    let waits : WaitsAt at found = rw awaits (waits-its found) in
    waiter-elsewhere n t vs at was is (λ q e. rw same (updated-others after_transition n change q t.waiters.items e)) waits
    (rw (same, updated-at after_transition n change t.waiters.items) (waits-updated at change found waits))
