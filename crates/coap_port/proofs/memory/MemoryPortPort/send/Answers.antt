use Rattle.std.proofs.Common.{rules}
use Rattle.coap_port.proofs.memory.MemoryPortPort.send.Goals as goal

pub returns-in-Ok-clause-takes : goal.returns-in-Ok-clause-takes
returns-in-Ok-clause-takes c = search rules

pub returns-in-Err-clause-takes : goal.returns-in-Err-clause-takes
returns-in-Err-clause-takes c = search rules
