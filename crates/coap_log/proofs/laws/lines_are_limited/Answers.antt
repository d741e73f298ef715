use Rattle.coap_log.proofs.Limiting.{limited}
use Rattle.coap_log.proofs.laws.lines_are_limited.Goals as goal

pub returns : goal.returns
returns c = limited
