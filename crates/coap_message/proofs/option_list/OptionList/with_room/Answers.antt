use Rattle.std.proofs.Common.{[]}
use Rattle.coap_message.proofs.OptionSpellings.{none_spelled, options_of-spelling}
use Rattle.coap_message.proofs.option_list.OptionList.with_room.Goals as goal

pub invariant_of-result : goal.invariant_of-result
invariant_of-result c = rw c.in_ok-with_capacity.ensures none_spelled

pub returns : goal.returns
returns c = rw c.in_ok-with_capacity.ensures (options_of-spelling 0 [] tt)
