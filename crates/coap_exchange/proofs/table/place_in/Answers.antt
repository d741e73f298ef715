use Rattle.coap_exchange.proofs.Places.{found-numbered}
use Rattle.coap_exchange.proofs.table.place_in.Goals as goal

pub returns-in_default-clause-found : goal.returns-in_default-clause-found
returns-in_default-clause-found g c = found-numbered c.args.number c.args.items.now.entries c.get_index_of.result c.get_index_of.ensures.index
