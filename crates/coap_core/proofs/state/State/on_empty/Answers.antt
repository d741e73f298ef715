use Rattle.std.proofs.Common.{◌≡◌, Some}
use Rattle.coap_pending.specs.Exchanges.{was_sent_as}
use Rattle.coap_pending.specs.Table.{first_that}
use Rattle.coap_core.proofs.Awaiting.{first-there}
use Rattle.coap_core.proofs.state.State.on_empty.Goals as goal

pub on_sent-requires-clause-there : goal.on_sent-requires-clause-there
on_sent-requires-clause-there g c =
    let found : Some c.in-Some.number ≡ first_that (was_sent_as c.args.arrival.from c.id-id.result c.args.arrival.now) c.args.self.now.exchanges = rw (← c.self.view_is) (rw c.exchanges-exchanges.ensures.exact at c.in-Some.ensures.exact) in
    first-there (was_sent_as c.args.arrival.from c.id-id.result c.args.arrival.now) c.args.self.now.exchanges c.in-Some.number c.requires.can.exchanges found
