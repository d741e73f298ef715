use Rattle.std.proofs.Common.{◌≡◌, ◌++◌}
use Rattle.coap_option.specs.declared.side.Side.TheVariants.{Response}
use Rattle.coap_forward.proofs.Values.{values_in}
use Rattle.coap_forward.proofs.changes.values_at.Given as goal

abbrev pub invariant-loop-option : goal.invariant-loop-option
invariant-loop-option l = values_in Response l.number l.response.options ≡ l.values ++ values_in Response l.number l.option-iterator
