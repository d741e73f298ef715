use Rattle.std.proofs.Common.{rules}
use Rattle.coap_store.proofs.renew.is_validated.Goals as goal

pub returns-in-Some-tag_of : goal.returns-in-Some-tag_of
returns-in-Some-tag_of c = search rules
