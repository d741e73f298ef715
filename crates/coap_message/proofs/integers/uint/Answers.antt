use Rattle.std.proofs.Common.{◌<◌, arith}
use Rattle.coap_message.proofs.Uints.{uint_step, uint_below, uint_fits}
use Rattle.coap_message.proofs.integers.uint.Goals as goal

pub overflow_mul-number : goal.overflow_mul-number
overflow_mul-number c =
    let fits = uint_fits c.loop-byte.number c.loop-byte.byte-index 0 c.args.value.now c.loop-byte-test.true c.requires c.loop-byte.invariant.below (omega arith) in
    omega (arith, fits)

pub overflow_add-number : goal.overflow_add-number
overflow_add-number c =
    let byte : c.from.result < 256 = omega (arith, c.from.ensures, c.type_inv.value c.loop-byte.byte-index) in
    let fits = uint_fits c.loop-byte.number c.loop-byte.byte-index c.from.result c.args.value.now c.loop-byte-test.true c.requires c.loop-byte.invariant.below byte in
    omega (arith, fits)

pub loop-byte-preserved : goal.loop-byte-preserved
loop-byte-preserved c =
    let byte : c.from.result < 256 = omega (arith, c.from.ensures, c.type_inv.value c.loop-byte.byte-index) in
    record {
      value = uint_step c.loop-byte.number c.loop-byte.byte-index c.from.result c.args.value.now c.loop-byte-test.true c.from.ensures c.loop-byte.invariant.value;
      below = uint_below c.loop-byte.number c.loop-byte.byte-index c.from.result c.loop-byte.invariant.below byte;
    }
