use Rattle.coap_log.proofs.Escaping.{escaped-ends_nothing}
use Rattle.coap_log.proofs.laws.values_forge_nothing.Goals as goal

pub returns : goal.returns
returns c = escaped-ends_nothing
