use Rattle.std.proofs.Common.{rules}
use Rattle.coap_uri.proofs.uri.UriParts.fit_a_request.Goals as goal

pub returns-then-are_short : goal.returns-then-are_short
returns-then-are_short c = search rules
