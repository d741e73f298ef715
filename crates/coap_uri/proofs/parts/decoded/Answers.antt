use Rattle.std.proofs.Common.{rules}
use Rattle.coap_uri.proofs.parts.decoded.Goals as goal

pub returns-clause-value : goal.returns-clause-value
returns-clause-value c = search rules
