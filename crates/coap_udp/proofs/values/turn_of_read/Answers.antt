use Rattle.std.proofs.Common.{rules}
use Rattle.coap_udp.proofs.values.turn_of_read.Goals as goal

pub returns-in-Err : goal.returns-in-Err
returns-in-Err c = search rules

pub returns-in-Err-2 : goal.returns-in-Err-2
returns-in-Err-2 c = search rules
