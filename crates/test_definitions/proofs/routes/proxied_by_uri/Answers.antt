use Rattle.std.proofs.Common.{refl}
use Rattle.std.specs.Str.{chars, is_utf8}
use Rattle.coap_target.specs.Request.{by_uri, request_target}
use Rattle.test_definitions.proofs.routes.proxied_by_uri.Goals as goal

pub returns : goal.returns
unfolding request_target by_uri is_utf8 chars
returns c = record {
  own_port = refl;
  other_port = refl;
  unmapped = refl;
  unknown = refl;
  good = refl;
  bad = refl;
  scheme = refl;
  no_utf8 = refl;
  before_scheme = refl;
  no_names = refl;
}
