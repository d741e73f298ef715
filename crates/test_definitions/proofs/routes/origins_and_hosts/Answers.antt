use Rattle.std.proofs.Common.{refl}
use Rattle.std.specs.Net.Reader.{read_number, read_octet, read_ipv4}
use Rattle.coap_uri.specs.Address.{ipv4_of, ipv6_between}
use Rattle.test_definitions.proofs.routes.origins_and_hosts.Goals as goal

pub returns : goal.returns
unfolding ipv4_of ipv6_between read_number read_octet read_ipv4
returns c = record {
  origin = refl;
  query = refl;
  empty_query = refl;
  without_query = refl;
  no_uri = refl;
  unknown_host = refl;
  hosts = refl;
  twice = refl;
  no_address = refl;
  no_name = refl;
}
