use Rattle.std.proofs.Common.{length}
use Rattle.coap_message.proofs.Splitting.{IsSplit}
use Rattle.coap_message.proofs.options.split_options.Given as goal

abbrev pub invariant-options : goal.invariant-options
invariant-options l = IsSplit l.bytes l.before l.rest

abbrev pub decreases-options : goal.decreases-options
decreases-options l = length l.rest
