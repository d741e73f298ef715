use Rattle.std.proofs.Common.{rules}
use Rattle.coap_lines.proofs.reading.input.is_skipped.Goals as goal

pub returns-in_default : goal.returns-in_default
returns-in_default c = search rules
