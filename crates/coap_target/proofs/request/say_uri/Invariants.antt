use Rattle.std.proofs.Common.{◌≡◌}
use Rattle.coap_target.specs.Request.{say_uri}
use Rattle.coap_target.proofs.request.say_uri.Given as goal

abbrev pub invariant-loop-option : goal.invariant-loop-option
invariant-loop-option l = say_uri l.options ≡ say_uri l.option-iterator
