use Rattle.coap_pending.proofs.Giving.{ids-apart, ids-counted, ids-left}
use Rattle.coap_pending.proofs.laws.ids_differ.Goals as goal

pub returns : goal.returns
returns c = record { differ = λ first moments low order. ids-apart first moments low order; counted = ids-counted; left = ids-left }
