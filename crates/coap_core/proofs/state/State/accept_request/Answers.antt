use Rattle.std.proofs.Common.{rules}
use Rattle.coap_core.proofs.state.State.accept_request.Goals as goal

pub returns : goal.returns
returns g c = search rules
