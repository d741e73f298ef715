use Rattle.std.proofs.Common.{◌≤◌, arith}
use Rattle.test_promises.proofs.shares.shares_are_added_up_exactly.Goals as goal

pub returns : goal.returns
returns c =
    record {
      of_two = record { con_records = omega arith; non_records = omega arith; exchanges = omega arith; waiters = omega arith };
      of_three = λ s. let few : 3 ≤ 2 = s.exchanges in omega (arith, few);
      con_records = λ s. let few : 4 ≤ 2 = s.con_records in omega (arith, few);
      non_records = λ s. let few : 4 ≤ 2 = s.non_records in omega (arith, few);
      exchanges = λ s. let few : 4 ≤ 2 = s.exchanges in omega (arith, few);
      waiters = λ s. let few : 4 ≤ 2 = s.waiters in omega (arith, few);
    }
