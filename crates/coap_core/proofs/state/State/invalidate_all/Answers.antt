use Rattle.std.proofs.Common.{rules}
use Rattle.coap_core.proofs.state.State.invalidate_all.Goals as goal

pub returns-in-Some-created : goal.returns-in-Some-created
returns-in-Some-created g c = search rules
