use Rattle.std.proofs.Common.{rules}
use Rattle.coap_udp.proofs.port.UdpPort.arrival.Goals as goal

pub returns-in-Err-clause-ended : goal.returns-in-Err-clause-ended
returns-in-Err-clause-ended g c = search rules
