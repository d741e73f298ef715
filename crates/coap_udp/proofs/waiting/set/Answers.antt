use Rattle.std.proofs.Common.{rules}
use Rattle.coap_udp.proofs.waiting.set.Goals as goal

pub returns-in_err-set_waits : goal.returns-in_err-set_waits
returns-in_err-set_waits g c = search rules

pub returns-in_ok-set_waits : goal.returns-in_ok-set_waits
returns-in_ok-set_waits g c = search rules
