use Rattle.std.proofs.Common.{refl}
use Rattle.coap_exchange.proofs.ready.ready_in.Goals as goal

pub returns-clause-exact : goal.returns-clause-exact
returns-clause-exact c = c.ready_since.ensures.exact (record { exchanges = c.args.exchanges.now; waiters = c.args.waiters.now }) refl c.got_in-got.ensures.exact
