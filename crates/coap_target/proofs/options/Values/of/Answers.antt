use Rattle.coap_message.proofs.Runs.{from-in_order}
use Rattle.coap_target.proofs.OneNumber.{values-from}
use Rattle.coap_target.proofs.options.Values.of.Goals as goal

pub invariant_of-result : goal.invariant_of-result
invariant_of-result c = rw c.iter_from.ensures.list (from-in_order c.args.number 0 c.args.options.now c.iter_from.ensures.in_order)

pub returns : goal.returns
returns c = rw c.iter_from.ensures.list (values-from c.args.number c.args.options.now)
