use Rattle.std.proofs.Common.{◌≤◌, arith}
use Rattle.test_promises.proofs.schedules.a_sixth_sending_is_refused.Goals as goal

pub returns : goal.returns
returns c =
    record {
      five = record { few = omega arith; spaced = (omega arith, omega arith, (omega arith, omega arith, (omega arith, omega arith, (omega arith, omega arith, tt)))) };
      six = λ s. let few : 6 ≤ 5 = s.few in omega (arith, few);
      but_for_their_number = (omega arith, omega arith, (omega arith, omega arith, (omega arith, omega arith, (omega arith, omega arith, (omega arith, omega arith, tt)))));
    }
