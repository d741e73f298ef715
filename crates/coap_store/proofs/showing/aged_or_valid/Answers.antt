use Rattle.std.proofs.Common.{rules}
use Rattle.coap_store.proofs.showing.aged_or_valid.Goals as goal

pub returns-in-None : goal.returns-in-None
returns-in-None c = search rules
