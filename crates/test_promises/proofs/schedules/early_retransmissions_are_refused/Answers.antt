use Rattle.std.proofs.Common.{◌≤◌, arith}
use Rattle.test_promises.proofs.schedules.early_retransmissions_are_refused.Goals as goal

pub returns : goal.returns
returns c =
    record {
      shortest = record { few = omega arith; spaced = (omega arith, omega arith, (omega arith, omega arith, (omega arith, omega arith, (omega arith, omega arith, tt)))) };
      longest = record { few = omega arith; spaced = (omega arith, omega arith, (omega arith, omega arith, (omega arith, omega arith, (omega arith, omega arith, tt)))) };
      second = λ s. let early : 2000 ≤ 1999 = s.spaced.0 in omega (arith, early);
      second_by_the_draw = λ s. let early : 3000 ≤ 2999 = s.spaced.0 in omega (arith, early);
      third = λ s. let early : 6000 ≤ 5999 = s.spaced.0 in omega (arith, early);
      fifth = λ s. let early : 30000 ≤ 29999 = s.spaced.0 in omega (arith, early);
      fourth_of_five = λ s. let early : 14000 ≤ 13999 = s.spaced.2.0 in omega (arith, early);
    }
