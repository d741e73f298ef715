use Rattle.std.proofs.Common.{refl}
use Rattle.test_definitions.proofs.cache.found.Goals as goal

pub returns : goal.returns
returns c = record {
  first = refl;
  last = refl;
  none = refl;
  moved = refl;
  unmoved = refl;
  given_up = refl;
  distinct = refl;
  twice = refl;
  newest_two = refl;
  both_marked = refl;
  other_path = refl;
  other_origin = refl;
  stays = refl;
  other_parts_stay = refl;
}
