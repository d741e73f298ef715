use Rattle.std.proofs.Common.{◌<◌, arith}
use Rattle.test_promises.proofs.schedules.late_retransmissions_are_refused.Goals as goal

pub returns : goal.returns
returns c =
    record {
      in_time = record { few = omega arith; spaced = (omega arith, omega arith, tt) };
      too_late = λ s. let late : 93000 < 93000 = s.spaced.1 in omega (arith, late);
      third_in_time = record { few = omega arith; spaced = (omega arith, omega arith, (omega arith, omega arith, tt)) };
      third_too_late = λ s. let late : 93000 < 93000 = s.spaced.1 in omega (arith, late);
    }
