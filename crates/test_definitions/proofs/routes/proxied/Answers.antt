use Rattle.std.proofs.Common.{refl}
use Rattle.std.specs.Net.Reader.{read_number, read_octet, read_ipv4}
use Rattle.coap_uri.specs.Address.{ipv4_of, ipv6_between}
use Rattle.coap_target.specs.Request.{by_scheme, request_target}
use Rattle.test_definitions.proofs.routes.proxied.Goals as goal

pub returns : goal.returns
unfolding request_target by_scheme ipv4_of ipv6_between read_number read_octet read_ipv4
returns c = record {
  own = refl;
  host = refl;
  without_host = refl;
  scheme = refl;
  port = refl;
  unknown = refl;
  address = refl;
  no_names = refl;
}
