use Rattle.std.proofs.Common.{◌≤◌, arith}
use Rattle.test_promises.proofs.shares.limits_of_remembered_messages_are_exact.Goals as goal

pub returns : goal.returns
returns c =
    record {
      con = omega arith;
      con_below = λ f. let full : 3 ≤ 2 = f in omega (arith, full);
      non = omega arith;
      non_below = λ f. let full : 3 ≤ 2 = f in omega (arith, full);
      of_another_type = λ f. let full : 1 ≤ 0 = f in omega (arith, full);
    }
