use Rattle.std.proofs.Common.{rules}
use Rattle.coap_core.proofs.responses.may_store.Goals as goal

pub returns-then-not-exchange : goal.returns-then-not-exchange
returns-then-not-exchange c = search rules
