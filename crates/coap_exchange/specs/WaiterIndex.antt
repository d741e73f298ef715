-- What waiters are looked up by.
use Rattle.std.specs.Prelude.{◌≡◌, ℕ, ◌+◌, List, Option, Some, None}
use Rattle.ordered_index.specs.Ordered.{empty_index, is_key, many_of, one_if}
use Rattle.coap_pending.specs.declared.exchange.Exchange.{Exchange}
use Rattle.coap_exchange.specs.declared.waiter_index.WaiterKeys.{WaiterKeys}
use Rattle.coap_exchange.specs.declared.waiter_index.WaiterIndex.{WaiterIndex}
use Rattle.coap_pending.specs.declared.waiter.Waiter.{Waiter}
use Rattle.coap_pending.specs.declared.waiter.WaiterState.{WaiterState}
use Rattle.coap_pending.specs.declared.waiter.WaiterState.TheVariants.{Waiting, Delivering}
use Rattle.coap_exchange.specs.Answered.{awaited_of}
use Rattle.coap_pending.specs.Exchanges.{answer_in}
use Rattle.endpoint_counts.specs.IndexOf.{key_at, CanRekey, HasRekeyed, IsIndexOf}
use Rattle.coap_pending.specs.Table.{Numbered}
use Rattle.coap_pending.specs.Waiters.{moment_of}

abbrev pub id_in : WaiterState → Option ℕ
id_in (Waiting exchange) = None
id_in (Delivering bytes id timer) = Some id

abbrev pub end_in : WaiterState → Option ℕ
end_in (Waiting exchange) = None
end_in (Delivering bytes id timer) = Some timer.due

-- the Message ID of the answer
abbrev pub id_of : Waiter → Option ℕ
id_of w = id_in w.state

-- the moment when the current timeout ends
abbrev pub end_of : Waiter → Option ℕ
end_of w = end_in w.state

abbrev pub waiter_keys_at : Option Waiter → WaiterKeys
waiter_keys_at found =
    record {
      awaited = key_at awaited_of found;
      id = key_at id_of found;
      end = key_at end_of found;
    }

pub record AreWaitersIndexed (items : List (Numbered Waiter)) (limit : ℕ) (index : WaiterIndex)
    : Type 0 where
  pub awaited : IsIndexOf awaited_of items limit index.awaited
  pub ids : IsIndexOf id_of items limit index.ids
  pub ends : IsIndexOf end_of items limit index.ends

-- nothing is looked up yet
abbrev pub empty_waiter_index : ℕ → WaiterIndex
empty_waiter_index limit =
    record { awaited = empty_index limit; ids = empty_index limit; ends = empty_index limit }

pub record CanRekeyWaiter (index : WaiterIndex) (number : ℕ) (was is : WaiterKeys) : Type 0 where
  pub awaited : CanRekey index.awaited number was.awaited is.awaited
  pub ids : CanRekey index.ids number was.id is.id
  pub ends : CanRekey index.ends number was.end is.end

pub record HaveRekeyedWaiter (old new : WaiterIndex) (number : ℕ) (was is : WaiterKeys)
    : Type 0 where
  pub awaited : HasRekeyed old.awaited new.awaited number was.awaited is.awaited
  pub ids : HasRekeyed old.ids new.ids number was.id is.id
  pub ends : HasRekeyed old.ends new.ends number was.end is.end
  pub counts :
      (e : ℕ)
      → many_of e new.awaited.pairs + one_if (is_key e was.awaited)
      ≡ many_of e old.awaited.pairs + one_if (is_key e is.awaited)

-- ---- which waiter is waiting

abbrev pub answered_in : List (Numbered Exchange) → WaiterState → Option ℕ
answered_in exchanges (Waiting exchange) = moment_of (answer_in exchange exchanges)
answered_in exchanges (Delivering bytes id timer) = None

-- the moment when the answer came of the exchange that it waits for
abbrev pub answered_of : List (Numbered Exchange) → Waiter → Option ℕ
answered_of exchanges w = answered_in exchanges w.state
