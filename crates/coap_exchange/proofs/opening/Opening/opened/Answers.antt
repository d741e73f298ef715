use Rattle.std.proofs.Common.{rules}
use Rattle.coap_exchange.proofs.opening.Opening.opened.Goals as goal

pub returns : goal.returns
returns c = search rules
