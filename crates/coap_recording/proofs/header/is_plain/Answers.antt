use Rattle.std.proofs.Common.{rules}
use Rattle.coap_recording.proofs.header.is_plain.Goals as goal

pub returns-in_default-3 : goal.returns-in_default-3
returns-in_default-3 c = search rules

pub returns-in-43-to-58 : goal.returns-in-43-to-58
returns-in-43-to-58 c = search rules
