use Rattle.coap_pending.specs.Exchanges.{was_sent_as}
use Rattle.coap_exchange.specs.Index.{id_of}
use Rattle.coap_exchange.proofs.Seeking.{key-listed, sent-by-id}
use Rattle.coap_exchange.proofs.exchanges.Exchanges.sent_as.Goals as goal

pub first_sought-requires-clause-rising : goal.first_sought-requires-clause-rising
first_sought-requires-clause-rising c = c.self.invariant.2.rising

pub first_sought-requires-clause-listed : goal.first_sought-requires-clause-listed
first_sought-requires-clause-listed c = rw c.from.ensures (key-listed id_of (was_sent_as c.args.at c.args.id c.args.now) c.args.id c.self.inside.table.limit c.self.inside.table.items c.self.inside.index.ids (sent-by-id c.args.at c.args.id c.args.now) c.self.invariant.2.ids)
