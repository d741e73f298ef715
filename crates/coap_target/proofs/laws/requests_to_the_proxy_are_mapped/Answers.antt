use Rattle.coap_target.proofs.Requests.{request_target-mapped}
use Rattle.coap_target.proofs.laws.requests_to_the_proxy_are_mapped.Goals as goal

pub returns : goal.returns
returns c = request_target-mapped
