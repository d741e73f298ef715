use Rattle.std.proofs.Common.{rules}
use Rattle.coap_udp.proofs.port.UdpPortPort.send.Goals as goal

pub returns-clause-takes : goal.returns-clause-takes
returns-clause-takes g c = search rules
