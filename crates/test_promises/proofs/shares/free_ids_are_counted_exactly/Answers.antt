use Rattle.std.proofs.Common.{◌≤◌, arith}
use Rattle.test_promises.proofs.shares.free_ids_are_counted_exactly.Goals as goal

pub returns : goal.returns
returns c =
    record {
      all = record { free = omega arith };
      no_more = λ h. let few : 32769 ≤ 32768 = h.free in omega (arith, few);
      besides_two = record { free = omega arith };
      no_more_besides_two = λ h. let few : 32769 ≤ 32768 = h.free in omega (arith, few);
      besides_a_given_one = record { free = omega arith };
      no_more_besides_a_given_one = λ h. let few : 32769 ≤ 32768 = h.free in omega (arith, few);
      later = record { free = omega arith };
    }
