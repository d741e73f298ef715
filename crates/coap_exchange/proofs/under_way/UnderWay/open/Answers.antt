use Rattle.std.proofs.Common.{◌≡◌, ℕ, refl, ap, Option}
use Rattle.std.specs.Prelude.{Result, Ok, Err, OnErr, OnOk}
use Rattle.coap_pending.specs.declared.exchange.Exchange.{Exchange}
use Rattle.coap_message.specs.declared.error.OutOfMemory.{OutOfMemory}
use Rattle.coap_exchange.specs.Opening.{opened}
use Rattle.coap_exchange.specs.Ready.{ready_of, AreReady, Tables}
use Rattle.coap_pending.specs.Table.{Table, admitted_to, first_that}
use Rattle.coap_pending.specs.Waiters.{waits_for}
use Rattle.coap_exchange.proofs.Readying.{got-push, ready-same}
use Rattle.coap_exchange.proofs.under_way.UnderWay.open.Goals as goal

pub invariant_of-self : goal.invariant_of-self
invariant_of-self c = go c.admit_in_room.result c.admit_in_room.ensures.ok c.admit_in_room.ensures.err
  where
    old : Tables
    old = record { exchanges = c.self.inside.exchanges; waiters = c.self.inside.waiters }

    come : Exchange
    come = opened c.args.opening

    stays : (ys : Table Exchange) → ys ≡ admitted_to come c.self.inside.exchanges → AreReady (record old { exchanges = ys }) c.self.inside.ready
    stays ys is = ready-same old (record old { exchanges = ys }) c.self.inside.ready (λ e. ap (λ (at : Option ℕ). ready_of at (first_that (waits_for e) c.self.inside.waiters.items)) (rw is (got-push c.self.inside.exchanges come e c.admit_in_room.ensures.sound refl))) refl c.self.invariant

    go : (r : Result ℕ OutOfMemory) → OnOk r (c.admit_in_room.new.self ≡ admitted_to come c.self.inside.exchanges) → OnErr r (c.admit_in_room.new.self ≡ c.self.inside.exchanges) → AreReady (record old { exchanges = c.admit_in_room.new.self }) c.self.inside.ready
    go (Ok n) is none = stays c.admit_in_room.new.self is
    go (Err e) none is = rw is c.self.invariant
