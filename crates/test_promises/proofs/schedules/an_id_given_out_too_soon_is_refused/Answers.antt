use Rattle.std.proofs.Common.{refl, arith}
use Rattle.test_promises.proofs.schedules.an_id_given_out_too_soon_is_refused.Goals as goal

pub returns : goal.returns
returns c =
    record {
      apart = ((λ soon same. omega (arith, soon), tt), (tt, tt));
      another = ((λ soon same. omega (arith, same), tt), (tt, tt));
      too_soon = λ a. a.0.0 (omega arith) refl;
      with_one_between = λ a. a.0.1.0 (omega arith) refl;
      with_one_after = λ a. a.1.0.0 (omega arith) refl;
    }
