use Rattle.std.proofs.Common.{refl}
use Rattle.test_definitions.proofs.cache.counted.Goals as goal

pub returns : goal.returns
returns c = record {
  plain = refl;
  tagged = refl;
  tagged_again = refl;
  host = refl;
  empty = refl;
  query = refl;
  key_options = refl;
  empty_options = refl;
}
