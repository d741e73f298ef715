use Rattle.std.proofs.Common.{rules}
use Rattle.coap_core.proofs.state.State.invalidate.Goals as goal

pub returns : goal.returns
returns g c = search rules
