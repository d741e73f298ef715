use Rattle.std.proofs.Common.{◌≡◌}
use Rattle.std.specs.Prelude.{◌==◌}
use Rattle.std.specs.List.{list_any}
use Rattle.coap_message.specs.declared.options.Opt.{Opt}
use Rattle.coap_forward.proofs.answers.has_observe.Given as goal

abbrev pub invariant-loop-option : goal.invariant-loop-option
invariant-loop-option l = list_any (λ (o : Opt). o.number == 6) l.options ≡ list_any (λ (o : Opt). o.number == 6) l.option-iterator
