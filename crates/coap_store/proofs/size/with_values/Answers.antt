use Rattle.std.proofs.Common.{◌≡◌, ap, arith}
use Rattle.coap_store.specs.Sizes.{values_size}
use Rattle.coap_store.proofs.size.with_values.Goals as goal

pub returns : goal.returns
returns c =
    let none : values_size c.loop-value.value-iterator ≡ 0 = ap values_size c.in-None.ensures.steps.0 in
    omega (arith, c.loop-value.invariant.counted, c.loop-value.invariant.fits, none)
