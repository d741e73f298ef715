use Rattle.std.proofs.Common.{[]}
use Rattle.coap_message.proofs.OptionSpellings.{none_spelled, options_of-spelling}
use Rattle.coap_message.proofs.option_list.OptionList.clear.Goals as goal

pub invariant_of-self : goal.invariant_of-self
invariant_of-self c = rw c.clear.ensures none_spelled

pub returns : goal.returns
returns c = rw c.clear.ensures (options_of-spelling 0 [] tt)
