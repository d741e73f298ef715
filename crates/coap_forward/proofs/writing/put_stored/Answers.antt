use Rattle.std.proofs.Common.{rules}
use Rattle.coap_forward.proofs.writing.put_stored.Goals as goal

pub unreachable-requires : goal.unreachable-requires
unreachable-requires c = search rules

pub returns : goal.returns
returns c = search rules
