use Rattle.std.proofs.Common.{refl}
use Rattle.test_definitions.proofs.cache.keyed.Goals as goal

pub returns : goal.returns
returns c = record {
  itself = refl;
  accept = refl;
  accepts = refl;
  size1 = refl;
  path = refl;
  origin = refl;
}
