use Rattle.coap_store.proofs.Cuts.{cut-is-longest}
use Rattle.coap_store.proofs.laws.cuts_are_longest.Goals as goal

pub returns : goal.returns
returns g c = cut-is-longest
