use Rattle.std.proofs.Common.{refl}
use Rattle.test_definitions.proofs.routes.configured.Goals as goal

pub returns : goal.returns
returns c = record {
  name_bytes = refl;
  no_name = refl;
  longest_name = refl;
  long_name = refl;
  with_query = refl;
  with_fragment = refl;
  most = refl;
  names = refl;
  hosts = refl;
  maps = refl;
}
