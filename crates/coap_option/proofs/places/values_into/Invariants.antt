use Rattle.std.proofs.Common.{◌≡◌, ◌++◌, map, filter}
use Rattle.coap_option.specs.Places.{places}
use Rattle.coap_option.proofs.places.values_into.Given as goal

abbrev pub invariant-loop-option : goal.invariant-loop-option
invariant-loop-option g l = map (λ p. p.option.value) (filter (g.T.Test.holds l.test) (places l.options)) ≡ l.list ++ map (λ o. o.value) l.option-iterator
