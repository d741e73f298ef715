use Rattle.std.proofs.Common.{refl}
use Rattle.test_definitions.proofs.routes.lengths.Goals as goal

pub returns : goal.returns
returns c = record {
  longest = refl;
  too_long = refl;
  long_host = refl;
  long_segment = refl;
  long_query = refl;
  all_short = refl;
}
