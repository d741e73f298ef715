use Rattle.std.proofs.Common.{rules}
use Rattle.coap_pending.proofs.ids.Ids.next.Goals as goal

pub returns-clause-id : goal.returns-clause-id
returns-clause-id c = search rules

pub returns-clause-given : goal.returns-clause-given
returns-clause-given c = search rules
