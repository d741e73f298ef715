use Rattle.std.proofs.Common.{rules}
use Rattle.coap_message.proofs.reading.read_header.Goals as goal

pub returns : goal.returns
returns c = search rules
