use Rattle.std.proofs.Common.{refl}
use Rattle.test_definitions.proofs.cache.aged.Goals as goal

pub returns : goal.returns
returns c = record {
  at_once = refl;
  second_begun = refl;
  second_gone = refl;
  last_second = refl;
  nothing_left = refl;
  long_past = refl;
  last_moment = refl;
  too_late = refl;
  no_max_age = refl;
  after_a_minute = refl;
  no_age = refl;
  no_age_at_once = refl;
  no_age_later = refl;
  unmarked = refl;
  stale = refl;
  changed = refl;
}
