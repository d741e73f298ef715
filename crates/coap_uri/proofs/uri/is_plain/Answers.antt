use Rattle.std.proofs.Common.{rules}
use Rattle.coap_uri.proofs.uri.is_plain.Goals as goal

pub returns-then-is_none : goal.returns-then-is_none
returns-then-is_none c = search rules
