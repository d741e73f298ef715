use Rattle.std.proofs.Common.{◌≤◌, ◌^◌, length, rules, sym, arith}
use Rattle.std.proofs.Math.Nat.{pow-le-pow_right}
use Rattle.coap_message.specs.OptRef.{seen}
use Rattle.coap_option.specs.Places.{places}
use Rattle.coap_option.proofs.MaxAges.{length-first_max_age}
use Rattle.coap_option.proofs.selection.max_age.Goals as goal

pub uint-requires : goal.uint-requires
uint-requires c = omega (arith, length-first_max_age (places c.lent.result) (seen c.in-Some.option) (sym c.in-Some.ensures))

pub overflow_cast-result : goal.overflow_cast-result
overflow_cast-result c =
    let short : length c.in-Some.option.value.now ≤ 4 = length-first_max_age (places c.lent.result) (seen c.in-Some.option) (sym c.in-Some.ensures) in
    let most : 256 ^ length c.in-Some.option.value.now ≤ 256 ^ 4 = pow-le-pow_right {n = 256} (omega arith) {i = length c.in-Some.option.value.now} {j = 4} short in
    omega (arith, c.uint.ensures.below, most)

pub returns-in-None : goal.returns-in-None
returns-in-None c = search rules
