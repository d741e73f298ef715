use Rattle.std.proofs.Common.{◌≡◌, ℕ, Some, None, false, true, rules, subst, sym, arith}
use Rattle.coap_exchange.specs.WaiterIndex.{id_of}
use Rattle.ordered_index.specs.Ordered.{IsNextOf}
use Rattle.coap_pending.specs.Table.{item_at, passes}
use Rattle.coap_pending.specs.Waiters.{was_sent_as}
use Rattle.endpoint_counts.proofs.Firsts.{none-start, none-next, first-found, first-missing}
use Rattle.coap_exchange.proofs.WaiterIndexing.{unsent}
use Rattle.coap_exchange.proofs.waiters.Waiters.sent_as.Goals as goal

pub loop-number-init : goal.loop-number-init
loop-number-init c = (omega arith, none-start id_of (was_sent_as c.args.at c.args.id c.args.now) c.args.id (unsent c.args.at c.args.id c.args.now) c.self.inside.table c.self.inside.index.ids c.self.invariant.2 c.self.invariant.1.ids)

pub returns-then-was_sent_as : goal.returns-then-was_sent_as
returns-then-was_sent_as c =
    let next : IsNextOf c.args.id c.loop-number.after c.self.inside.index.ids.pairs (Some c.in-Some.number) = subst (λ (o : ℕ). IsNextOf o c.loop-number.after c.self.inside.index.ids.pairs (Some c.in-Some.number)) c.from.ensures c.in-Some.ensures.exact in
    let on : passes (was_sent_as c.args.at c.args.id c.args.now) (item_at c.in-Some.number c.self.inside.table.items) ≡ true = rw c.self.view_is (sym c.if-was_sent_as.ensures.exact) in
    record { exact = rw (← c.self.view_is) (sym (first-found id_of (was_sent_as c.args.at c.args.id c.args.now) c.args.id (unsent c.args.at c.args.id c.args.now) c.self.inside.table c.self.inside.index.ids c.self.invariant.2 c.self.invariant.1.ids c.loop-number.after c.in-Some.number c.loop-number.invariant.1 next on)) }

pub loop-number-preserved : goal.loop-number-preserved
loop-number-preserved c =
    let next : IsNextOf c.args.id c.loop-number.after c.self.inside.index.ids.pairs (Some c.in-Some.number) = subst (λ (o : ℕ). IsNextOf o c.loop-number.after c.self.inside.index.ids.pairs (Some c.in-Some.number)) c.from.ensures c.in-Some.ensures.exact in
    let off : passes (was_sent_as c.args.at c.args.id c.args.now) (item_at c.in-Some.number c.self.inside.table.items) ≡ false = rw c.self.view_is (sym c.if-was_sent_as.ensures.exact) in
    (search rules, none-next id_of (was_sent_as c.args.at c.args.id c.args.now) c.args.id (unsent c.args.at c.args.id c.args.now) c.self.inside.table c.self.inside.index.ids c.self.invariant.2 c.self.invariant.1.ids c.loop-number.after c.in-Some.number c.loop-number.invariant.1 next off)

pub returns : goal.returns
returns c =
    let next : IsNextOf c.args.id c.loop-number.after c.self.inside.index.ids.pairs None = subst (λ (o : ℕ). IsNextOf o c.loop-number.after c.self.inside.index.ids.pairs None) c.from.ensures c.in_default.ensures.exact in
    record { exact = rw (← c.self.view_is) (sym (first-missing id_of (was_sent_as c.args.at c.args.id c.args.now) c.args.id (unsent c.args.at c.args.id c.args.now) c.self.inside.table c.self.inside.index.ids c.self.invariant.2 c.self.invariant.1.ids c.loop-number.after c.loop-number.invariant.1 next)) }
