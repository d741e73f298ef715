use Rattle.std.proofs.Common.{arith, refl}
use Rattle.coap_dedup.proofs.records.Records.new.Goals as goal

pub invariant_of-result : goal.invariant_of-result
invariant_of-result c = rw c.in_ok-ring.ensures record {
  are = record { within = omega arith; within_each = λ from. omega arith; in_order = tt; apart = tt };
  numbers = c.in_ok-numbers.ensures.none;
  room = c.in_ok-numbers.ensures.capacity;
}

pub returns : goal.returns
returns c = record { empty = rw c.in_ok-ring.ensures refl }
