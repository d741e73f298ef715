use Rattle.std.proofs.Common.{◌++◌, length}
use Rattle.coap_message.specs.Options.{values_of}
use Rattle.coap_message.specs.SpelledOptions.{SpellOptions}
use Rattle.coap_message.proofs.Runs.{IsAdded}
use Rattle.coap_message.proofs.options.OptRefs.append_each.Given as goal

abbrev pub invariant-options : goal.invariant-options
invariant-options l = (SpellOptions l.before l.rest) × IsAdded l.number (l.fn.list ++ values_of l.number l.fn.self) l.list l.before l.rest

abbrev pub decreases-options : goal.decreases-options
decreases-options l = length l.rest
