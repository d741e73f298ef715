use Rattle.std.proofs.Common.{refl}
use Rattle.std.specs.Fmt.{digits}
use Rattle.std.specs.Net.Reader.{read_number, read_octet, read_ipv4}
use Rattle.url.proofs.OnLiterals.{url_on_literals}
use Rattle.coap_uri.specs.Address.{ipv4_of, ipv6_between}
use Rattle.coap_uri.specs.Uri.{uri_of}
use Rattle.coap_target.specs.Request.{by_scheme, by_uri, request_target}
use Rattle.test_definitions.proofs.routes.beyond_the_next_proxy.Goals as goal

pub returns : goal.returns
unfolding url_on_literals digits uri_of by_uri request_target by_scheme ipv4_of ipv6_between read_number read_octet read_ipv4
returns c = record { unknown = refl; port = refl; last_port = refl; port_0 = refl; known = refl; address = refl; own = refl; without_host = refl; mapped = refl; scheme = refl; no_names = refl; of_a_uri = refl; of_an_ipv6_uri = refl; by_uri = refl; text = refl; least_port = refl; no_port = refl; greatest_port = refl; too_great = refl }
