use Rattle.std.proofs.Common.{rules}
use Rattle.coap_core.proofs.state.State.note_delivery.Goals as goal

pub returns-in_ok-bytes-in-Con-clause-ok : goal.returns-in_ok-bytes-in-Con-clause-ok
returns-in_ok-bytes-in-Con-clause-ok g c = search rules

pub returns-in-Non : goal.returns-in-Non
returns-in-Non g c = search rules
