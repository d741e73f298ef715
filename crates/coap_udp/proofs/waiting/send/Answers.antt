use Rattle.std.proofs.Common.{rules}
use Rattle.coap_udp.proofs.waiting.send.Goals as goal

pub returns-then-waiting : goal.returns-then-waiting
returns-then-waiting g c = search rules

pub returns : goal.returns
returns g c = search rules
