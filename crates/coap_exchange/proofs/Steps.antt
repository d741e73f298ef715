-- Of a table's items one comes, changes or goes, and what waiters are looked up by follows.
use Rattle.std.proofs.Common.{◌≡◌, ℕ, ◌+◌, ◌≤◌, length, Option, refl, arith}
use Rattle.coap_exchange.specs.declared.waiter_index.WaiterIndex.{WaiterIndex}
use Rattle.coap_pending.specs.declared.waiter.Waiter.{Waiter}
use Rattle.coap_exchange.specs.Answered.{awaited_of}
use Rattle.coap_exchange.specs.WaiterIndex.{end_of, id_of, waiter_keys_at, AreWaitersIndexed, CanRekeyWaiter, HaveRekeyedWaiter}
use Rattle.coap_pending.specs.Table.{Table, IsTable, item_at, admitted_to}
use Rattle.coap_exchange.specs.Updates.{updated_at}
use Rattle.endpoint_counts.proofs.Indexing.{Moves, moves-admitted, can-pass, has-passed}
use Rattle.coap_pending.proofs.Tables.{admitted-is}
use Rattle.coap_exchange.proofs.Updating.{moves-updated, updated-is}

-- only the item of one number comes, changes or goes
pub record IsStep {A : Type 0} (n : ℕ) (old new : Table A) : Type 0 where
  pub moves : Moves n old.items new.items
  pub limit : new.limit ≡ old.limit
  pub within : length new.items ≤ old.limit

module _ {A : Type 0} (t : Table A) (is : IsTable t) where
  -- an item changes or goes
  pub step-updated : {C : Type 0} (made : C → A → A) (change : Option C) (n : ℕ) → IsStep n t (record t { items = updated_at made change n t.items })
  step-updated made change n = record { moves = moves-updated made n t is change; limit = refl; within = (updated-is made n t is change).within }

  -- an item comes
  pub step-admitted : (a : A) → length t.items + 1 ≤ t.limit → IsStep (t.admitted + 1) t (admitted_to a t)
  step-admitted a room = record { moves = moves-admitted t a is; limit = refl; within = (admitted-is t a is (omega arith)).within }

-- ---- what waiters are looked up by follows

module _ (n : ℕ) (old new : Table Waiter) (step : IsStep n old new) (index : WaiterIndex) (marked : AreWaitersIndexed old.items old.limit index) (was is : Option Waiter) (there : item_at n old.items ≡ was) (then : item_at n new.items ≡ is) where
  -- there is room for what the waiter of this number becomes
  pub keys-can-pass : CanRekeyWaiter index n (waiter_keys_at was) (waiter_keys_at is)
  keys-can-pass =
      rw (← there, ← then) (record {
        awaited = can-pass awaited_of n old.limit old.items new.items index.awaited step.moves step.within marked.awaited;
        ids = can-pass id_of n old.limit old.items new.items index.ids step.moves step.within marked.ids;
        ends = can-pass end_of n old.limit old.items new.items index.ends step.moves step.within marked.ends;
      })

  -- and once it has become that, the index is that of the new table
  pub keys-passed : (next : WaiterIndex) → HaveRekeyedWaiter index next n (waiter_keys_at was) (waiter_keys_at is) → AreWaitersIndexed new.items new.limit next
  keys-passed next have =
      let passed : HaveRekeyedWaiter index next n (waiter_keys_at (item_at n old.items)) (waiter_keys_at (item_at n new.items)) = rw (there, then) have in
      rw step.limit (record {
        awaited = has-passed awaited_of n old.limit old.items new.items index.awaited next.awaited step.moves marked.awaited passed.awaited;
        ids = has-passed id_of n old.limit old.items new.items index.ids next.ids step.moves marked.ids passed.ids;
        ends = has-passed end_of n old.limit old.items new.items index.ends next.ends step.moves marked.ends passed.ends;
      })
