use Rattle.coap_stats.proofs.Escaping.{path-ends_nothing}
use Rattle.coap_stats.proofs.laws.prefixes_end_nothing.Goals as goal

pub returns : goal.returns
returns c = path-ends_nothing
