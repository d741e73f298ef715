use Rattle.std.proofs.Common.{◌+◌, ◌<◌, ◌∙◌, arith, length, refl, rules, subst}
use Rattle.coap_pending.specs.declared.waiter.Waiter.{Waiter}
use Rattle.coap_pending.specs.Table.{IsTable, admitted_to, count}
use Rattle.coap_pending.specs.Waiters.{is_of, is_waiting, joined}
use Rattle.endpoint_counts.proofs.ByClient.{of_clients-push, within-push}
use Rattle.coap_pending.proofs.Counts.{count-length, count-push}
use Rattle.endpoint_counts.proofs.Fewer.{few-entries}
use Rattle.coap_exchange.proofs.Steps.{step-admitted, keys-can-pass, keys-passed}
use Rattle.coap_pending.proofs.Tables.{admitted-is, item_at-fresh, item_at-last}
use Rattle.endpoint_counts.proofs.Indexing.{moves-admitted}
use Rattle.coap_exchange.proofs.Waiting.{short-push, tallied-moved}
use Rattle.coap_exchange.proofs.waiters.Waiters.admit_in_room.Goals as goal

pub enter-requires-clause-room : goal.enter-requires-clause-room
enter-requires-clause-room c =
    let room = rw (← c.self.view_is) at c.requires.room in
    let few = few-entries (λ (w : Waiter). w.client) c.self.inside.clients c.self.inside.table.items c.laws-2.ensures.sound c.laws-2.ensures.distinct c.laws-2.ensures.some c.self.invariant.3 in
    omega (arith, room, few, c.self.invariant.5)

pub enter-requires-clause-few : goal.enter-requires-clause-few
enter-requires-clause-few c =
    let room = rw (← c.self.view_is) at c.requires.room in
    omega (arith, room, count-length (is_of c.args.peer) c.self.inside.table.items, c.self.invariant.3 c.args.peer, c.laws.ensures.fits)

pub overflow_add-self : goal.overflow_add-self
overflow_add-self c = omega (arith, count-length is_waiting c.self.inside.table.items, c.self.invariant.0.waiting, c.in-Ok.ensures.room, c.in-Ok.ensures.fits)

pub rekey-requires : goal.rekey-requires
rekey-requires c =
    let w : Waiter = joined c.args.joining in
    let t = c.self.inside.table in
    let is = c.laws.ensures.sound in
    let room : length t.items < t.limit = rw (← c.self.view_is) at c.requires.room in
    rw (c.waiter_keys_in-was.ensures.exact, c.waiter_keys_of-is.ensures.exact, c.joined-waiter.ensures.exact, c.in-Ok.ensures.number)
    (keys-can-pass (t.admitted + 1) t (admitted_to w t) (step-admitted t is w (omega (arith, room))) c.self.inside.index c.self.invariant.1 _ _ (item_at-fresh t is) (item_at-last t.admitted (t.admitted + 1) t.items w (omega arith) is.below))

pub invariant_of-self : goal.invariant_of-self
invariant_of-self c =
    let w : Waiter = joined c.args.joining in
    let t = c.self.inside.table in
    let is = c.laws.ensures.sound in
    let room : length t.items < t.limit = rw (← c.self.view_is) at c.requires.room in
    let own_room : count (is_of c.args.joining.client) t.items < t.per_client = rw (← c.self.view_is) at c.requires.client_room in
    let passed = rw (c.waiter_keys_in-was.ensures.exact, c.waiter_keys_of-is.ensures.exact, c.joined-waiter.ensures.exact, c.in-Ok.ensures.number) at c.rekey.ensures.exact in
    rw (c.in-Ok.ensures.ok, c.joined-waiter.ensures.exact) (
      record {
        waiting = rw count-push (omega (arith, c.self.invariant.0.waiting));
        tallied = tallied-moved (t.admitted + 1) t.items (admitted_to w t).items c.self.inside.index.awaited.pairs c.rekey.new.self.awaited.pairs (moves-admitted t w is) c.self.invariant.0.tallied (rw (item_at-fresh t is, item_at-last t.admitted (t.admitted + 1) t.items w (omega arith) is.below) passed.counts);
        short = short-push t.items _ c.args.joining.exchange refl c.self.invariant.0.short;
      },
      keys-passed (t.admitted + 1) t (admitted_to w t) (step-admitted t is w (omega (arith, room))) c.self.inside.index c.self.invariant.1 _ _ (item_at-fresh t is) (item_at-last t.admitted (t.admitted + 1) t.items w (omega arith) is.below) c.rekey.new.self passed,
      admitted-is t _ is room,
      of_clients-push (λ (w : Waiter). w.client) t.items c.self.inside.clients c.enter.new.clients (t.admitted + 1) w (rw c.requires.peer at c.enter.ensures.exact) c.self.invariant.3,
      within-push (λ (w : Waiter). w.client) t w own_room c.self.invariant.4,
      c.enter.ensures.limit ∙ c.self.invariant.5,
      c.enter.ensures.seed ∙ c.self.invariant.6,
    )

pub invariant_of-self-in-Err : goal.invariant_of-self-in-Err
invariant_of-self-in-Err c = search rules

pub returns-in-Ok-clause-number : goal.returns-in-Ok-clause-number
returns-in-Ok-clause-number c = search rules

pub returns-in-Ok-clause-ok : goal.returns-in-Ok-clause-ok
returns-in-Ok-clause-ok c = search rules

pub returns-in-Ok-clause-err : goal.returns-in-Ok-clause-err
returns-in-Ok-clause-err c = tt

pub returns-in-Ok-clause-sound : goal.returns-in-Ok-clause-sound
returns-in-Ok-clause-sound c = subst IsTable c.self.view_is c.laws.ensures.sound

pub returns-in-Err-clause-number : goal.returns-in-Err-clause-number
returns-in-Err-clause-number c = tt

pub returns-in-Err-clause-ok : goal.returns-in-Err-clause-ok
returns-in-Err-clause-ok c = tt

pub returns-in-Err-clause-err : goal.returns-in-Err-clause-err
returns-in-Err-clause-err c = search rules

pub returns-in-Err-clause-sound : goal.returns-in-Err-clause-sound
returns-in-Err-clause-sound c = subst IsTable c.self.view_is c.laws.ensures.sound
