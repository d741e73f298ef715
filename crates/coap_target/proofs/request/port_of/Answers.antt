use Rattle.std.proofs.Common.{◌≤◌, ◌^◌, length, arith}
use Rattle.std.proofs.Math.Nat.{pow-le-pow_right}
use Rattle.coap_target.proofs.Screened.{uri_port-short}
use Rattle.coap_target.proofs.request.port_of.Goals as goal

pub uint-requires : goal.uint-requires
uint-requires c =
    let short : length c.in-Some.value.now ≤ 2 = uri_port-short c.args.request.now.options c.in-Some.value.now c.requires c.in-Some.ensures in
    omega arith

pub overflow_cast-result : goal.overflow_cast-result
overflow_cast-result c =
    let short : length c.in-Some.value.now ≤ 2 = uri_port-short c.args.request.now.options c.in-Some.value.now c.requires c.in-Some.ensures in
    let most : 256 ^ length c.in-Some.value.now ≤ 256 ^ 2 = pow-le-pow_right {n = 256} (omega arith) {i = length c.in-Some.value.now} {j = 2} short in
    omega (arith, c.uint.ensures.below, most)
