use Rattle.std.proofs.Common.{rules}
use Rattle.coap_forward.proofs.form.payload_sent.Goals as goal

pub returns-then-eq-2 : goal.returns-then-eq-2
returns-then-eq-2 c = search rules
