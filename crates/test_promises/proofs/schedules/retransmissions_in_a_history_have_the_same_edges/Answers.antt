use Rattle.std.proofs.Common.{◌≤◌, ◌<◌, refl, arith}
use Rattle.test_promises.proofs.schedules.retransmissions_in_a_history_have_the_same_edges.Goals as goal

pub returns : goal.returns
returns c =
    record {
      due = record { few = omega arith; spaced = (omega arith, omega arith, (refl, refl), (omega arith, omega arith, (refl, refl), tt)) };
      early = λ s. let early : 2000 ≤ 1999 = s.spaced.0 in omega (arith, early);
      third_early = λ s. let early : 6000 ≤ 5999 = s.spaced.0 in omega (arith, early);
      in_time = record { few = omega arith; spaced = (omega arith, omega arith, (refl, refl), tt) };
      too_late = λ s. let late : 93000 < 93000 = s.spaced.1 in omega (arith, late);
    }
