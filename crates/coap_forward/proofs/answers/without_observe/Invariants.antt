use Rattle.std.proofs.Common.{◌≡◌, ◌++◌}
use Rattle.coap_message.specs.Options.{AreOptions, last_number}
use Rattle.coap_forward.proofs.Observing.{unobserved}
use Rattle.coap_forward.proofs.answers.without_observe.Given as goal

abbrev pub invariant-loop-option : goal.invariant-loop-option
invariant-loop-option l = record {
  in_order : AreOptions (last_number 0 l.list) l.option-iterator;
  picked : unobserved l.options ≡ l.list ++ unobserved l.option-iterator;
}
