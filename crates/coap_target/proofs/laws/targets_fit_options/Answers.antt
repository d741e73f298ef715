use Rattle.coap_target.proofs.Requests.{request_target-is}
use Rattle.coap_target.proofs.laws.targets_fit_options.Goals as goal

pub returns : goal.returns
returns c = request_target-is
