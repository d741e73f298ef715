use Rattle.std.proofs.Common.{rules}
use Rattle.coap_pending.proofs.timer.Timer.fire.Goals as goal

pub returns-clause-fired : goal.returns-clause-fired
returns-clause-fired c = search rules
