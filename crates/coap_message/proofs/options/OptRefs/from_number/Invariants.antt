use Rattle.std.proofs.Common.{◌≡◌, length}
use Rattle.coap_message.specs.Options.{from_number}
use Rattle.coap_message.specs.SpelledOptions.{options_of, SpellOptions}
use Rattle.coap_message.proofs.options.OptRefs.from_number.Given as goal

abbrev pub invariant-below : goal.invariant-below
invariant-below l = (SpellOptions l.before l.rest) × (from_number l.number (options_of l.before l.rest) ≡ from_number l.number l.fn.self)

abbrev pub decreases-below : goal.decreases-below
decreases-below l = length l.rest
