use Rattle.std.proofs.Common.{rules}
use Rattle.coap_udp.proofs.port.UdpPort+Host+C.bind_by.Goals as goal

pub returns-clause-bound : goal.returns-clause-bound
returns-clause-bound g c = search rules

pub returns-clause-new : goal.returns-clause-new
returns-clause-new g c = search rules
