use Rattle.std.proofs.Common.{rules}
use Rattle.coap_core.proofs.state.State.on_miss.Goals as goal

pub returns-in-Some : goal.returns-in-Some
returns-in-Some g c = search rules
