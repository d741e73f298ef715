use Rattle.std.proofs.Common.{rules}
use Rattle.coap_udp.proofs.port.UdpPort.turn.Goals as goal

pub returns-clause-timed : goal.returns-clause-timed
returns-clause-timed g c = search rules
