use Rattle.coap_option.proofs.Surveying.{IsKeyUpTo}
use Rattle.coap_option.proofs.survey.push_key_options.Given as goal

abbrev pub invariant-loop-option : goal.invariant-loop-option
invariant-loop-option l = IsKeyUpTo l.request l.list l.option-iterator
