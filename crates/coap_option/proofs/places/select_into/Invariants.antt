use Rattle.std.proofs.Common.{◌≡◌, ◌++◌}
use Rattle.coap_message.specs.Options.{AreOptions, last_number}
use Rattle.coap_option.specs.Selection.{selected}
use Rattle.coap_option.proofs.places.select_into.Given as goal

abbrev pub invariant-loop-option : goal.invariant-loop-option
invariant-loop-option g l = (selected (g.T.Test.holds l.test) l.options ≡ l.list ++ l.option-iterator) × AreOptions (last_number 0 l.list) l.option-iterator
