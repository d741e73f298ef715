use Rattle.coap_store.proofs.Measures.{left-fits}
use Rattle.coap_store.specs.Showing.{addressed, aged}
use Rattle.coap_store.proofs.measure.aged_fits.Goals as goal

pub returns : goal.returns
returns c kind id = rw c.is_some.ensures (left-fits c.args.most (addressed kind id c.args.token.now (aged c.args.message.now c.args.left)) c.behind_aged.result c.behind_aged.ensures)
