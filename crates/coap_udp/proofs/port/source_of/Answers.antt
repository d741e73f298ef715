use Rattle.std.proofs.Common.{rules}
use Rattle.coap_udp.proofs.port.source_of.Goals as goal

pub returns-in-Ok-clause-read : goal.returns-in-Ok-clause-read
returns-in-Ok-clause-read c = search rules

pub returns-in-Err-clause-read : goal.returns-in-Err-clause-read
returns-in-Err-clause-read c = search rules
