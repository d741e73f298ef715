use Rattle.std.proofs.Common.{[]}
use Rattle.coap_message.proofs.OptionSpellings.{none_spelled, options_of-spelling}
use Rattle.coap_message.proofs.options.Options.none.Goals as goal

pub invariant_of-result : goal.invariant_of-result
invariant_of-result c = none_spelled

pub returns : goal.returns
returns c = options_of-spelling 0 [] tt
