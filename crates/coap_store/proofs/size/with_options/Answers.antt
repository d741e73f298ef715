use Rattle.std.proofs.Common.{◌≡◌, ap, arith}
use Rattle.coap_store.specs.Sizes.{options_size}
use Rattle.coap_store.proofs.size.with_options.Goals as goal

pub returns : goal.returns
returns c =
    let none : options_size c.loop-option.option-iterator ≡ 0 = ap options_size c.in-None.ensures.steps.0 in
    omega (arith, c.loop-option.invariant.counted, c.loop-option.invariant.fits, none)
