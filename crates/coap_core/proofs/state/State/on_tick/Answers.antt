use Rattle.std.proofs.Common.{rules, ◌≡◌, ◌≤◌, Some, length, IfOk, OnErr, sym, subst, ◌∙◌}
use Rattle.coap_model.specs.declared.due.DueItem.TheVariants.{OfExchange, OfWaiter}
use Rattle.coap_model.specs.State.{Step}
use Rattle.coap_model.specs.Ticks.{item_due, on_tick}
use Rattle.coap_core.specs.Done.{DoesSo, GivesConfirmable}
use Rattle.coap_core.specs.Dues.{waiter_at}
use Rattle.coap_core.proofs.Ticking.{client-due-at, due-at, of-exchange, of-waiter}
use Rattle.coap_core.proofs.state.State.on_tick.Given.{Over}
use Rattle.coap_core.proofs.state.State.on_tick.Goals.{In-Some-OfExchange, In-Some-OfWaiter}
use Rattle.coap_core.proofs.state.State.on_tick.Goals as goal

-- an exchange is due first
exchange : (g : Over) (c : In-Some-OfExchange g) → Some (OfExchange c.in-Some-OfExchange.at c.in-Some-OfExchange.number) ≡ item_due c.args.self.now
exchange g c =
    let item = rw c.in-Some-OfExchange.is at c.in-Some-OfExchange.field-0-is in
    rw item at (sym c.in-Some-OfExchange.is ∙ c.requires.due)

-- a client is due first
waiter : (g : Over) (c : In-Some-OfWaiter g) → Some (OfWaiter c.in-Some-OfWaiter.at c.in-Some-OfWaiter.number) ≡ item_due c.args.self.now
waiter g c =
    let item = rw c.in-Some-OfWaiter.is at c.in-Some-OfWaiter.field-0-is in
    rw item at (sym c.in-Some-OfWaiter.is ∙ c.requires.due)

pub on_exchange-requires-clause-due : goal.on_exchange-requires-clause-due
on_exchange-requires-clause-due g c =
    let k = (goal.at.on_exchange-requires-clause-due g c).In-Some-OfExchange in
    rw c.seek_exchange.ensures
    (due-at c.args.self.now c.args.timing.now c.in-Some-OfExchange.at c.in-Some-OfExchange.number c.requires.can.ready.can.exchanges (exchange g k) c.if-at-timing.true)

pub on_exchange-requires-clause-can : goal.on_exchange-requires-clause-can
on_exchange-requires-clause-can g c =
    let k = (goal.at.on_exchange-requires-clause-can g c).In-Some-OfExchange in
    record {
      ready = rw c.seek_exchange.ensures c.requires.can.ready;
      room = rw c.seek_exchange.ensures c.requires.can.room;
      fits = rw c.seek_exchange.ensures
          (subst (λ (s : Step). length s.bytes ≤ c.args.out.now.room)
          (of-exchange c.args.self.now c.args.timing c.in-Some-OfExchange.at c.in-Some-OfExchange.number (exchange g k) c.if-at-timing.true) c.requires.can.fits);
    }

pub returns-in-Some-OfExchange-clause-done : goal.returns-in-Some-OfExchange-clause-done
returns-in-Some-OfExchange-clause-done g c =
    let k = (goal.at.returns-in-Some-OfExchange-clause-done g c).In-Some-OfExchange in
    record {
      exact = subst (λ (s : Step). DoesSo s c.on_exchange.result c.args.out.now c.on_exchange.new.out c.on_exchange.new.self)
          (sym (of-exchange c.args.self.now c.args.timing c.in-Some-OfExchange.at c.in-Some-OfExchange.number (exchange g k) c.if-at-timing.true)) (rw c.seek_exchange.ensures at c.on_exchange.ensures);
      err = search rules;
      kept = search rules;
    }

pub on_waiter-requires-clause-can : goal.on_waiter-requires-clause-can
on_waiter-requires-clause-can g c =
    let k = (goal.at.on_waiter-requires-clause-can g c).In-Some-OfWaiter in
    record {
      ready = c.requires.can.ready;
      room = c.requires.can.room;
      fits = subst (λ (s : Step). length s.bytes ≤ c.args.out.now.room)
          (of-waiter c.args.self.now c.args.timing c.in-Some-OfWaiter.at c.in-Some-OfWaiter.number (waiter g k) c.if-at-timing-2.true) c.requires.can.fits;
    }

-- the step is that of the client
step : (g : Over) (c : In-Some-OfWaiter g) → c.in-Some-OfWaiter.at ≤ c.args.timing.now → waiter_at c.args.self.now c.args.timing c.in-Some-OfWaiter.number ≡ on_tick c.args.self.now c.args.timing.now c.args.timing.draw
step g c due = sym (of-waiter c.args.self.now c.args.timing c.in-Some-OfWaiter.at c.in-Some-OfWaiter.number (waiter g c) due)

pub on_waiter-requires-clause-due : goal.on_waiter-requires-clause-due
on_waiter-requires-clause-due g c =
    let k = (goal.at.on_waiter-requires-clause-due g c).In-Some-OfWaiter in
    client-due-at c.args.self.now c.args.timing.now c.in-Some-OfWaiter.at c.in-Some-OfWaiter.number c.requires.can.ready.can.waiters (waiter g k) c.if-at-timing-2.true

pub returns-in-Some-OfWaiter-clause-done : goal.returns-in-Some-OfWaiter-clause-done
returns-in-Some-OfWaiter-clause-done g c =
    let k = (goal.at.returns-in-Some-OfWaiter-clause-done g c).In-Some-OfWaiter in
    record {
      exact = subst (λ (s : Step). IfOk c.on_waiter.result (λ report. DoesSo s report c.args.out.now c.on_waiter.new.out c.on_waiter.new.self))
          (step g k c.if-at-timing-2.true) c.on_waiter.ensures.done.exact;
      err = search rules;
      kept = search rules;
    }

pub returns-in-Some-OfWaiter-clause-memory : goal.returns-in-Some-OfWaiter-clause-memory
returns-in-Some-OfWaiter-clause-memory g c =
    let k = (goal.at.returns-in-Some-OfWaiter-clause-memory g c).In-Some-OfWaiter in
    subst (λ (s : Step). OnErr c.on_waiter.result (GivesConfirmable s)) (step g k c.if-at-timing-2.true) c.on_waiter.ensures.memory

pub returns-in_default-clause-memory : goal.returns-in_default-clause-memory
returns-in_default-clause-memory g c = search rules
