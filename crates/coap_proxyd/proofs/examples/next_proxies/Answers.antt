use Rattle.std.proofs.Common.{refl}
use Rattle.std.specs.Net.Reader.{read_ipv4, read_octet, read_number}
use Rattle.coap_uri.specs.Address.{ipv4_of, ipv6_between}
use Rattle.coap_target.specs.RouteTexts.{routes_of}
use Rattle.coap_config.specs.ProxyOption.{proxy_option_of}
use Rattle.coap_proxyd.proofs.examples.next_proxies.Goals as goal

pub returns : goal.returns
unfolding read_number read_octet read_ipv4 ipv4_of ipv6_between routes_of proxy_option_of
returns c = record { given = refl; names_alone = refl; not_given = refl; refused = refl; routes = refl }
