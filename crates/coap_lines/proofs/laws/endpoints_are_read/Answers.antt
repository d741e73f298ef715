use Rattle.coap_lines.proofs.EndpointTexts.{endpoint_of-is, endpoint_of-written}
use Rattle.coap_lines.proofs.laws.endpoints_are_read.Goals as goal

pub returns : goal.returns
returns c = record { read = endpoint_of-written; only = endpoint_of-is }
