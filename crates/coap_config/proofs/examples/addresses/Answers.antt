use Rattle.std.proofs.Common.{refl}
use Rattle.coap_uri.specs.Address.{ipv4_of, ipv6_between}
use Rattle.std.specs.Net.Reader.{read_ipv4, read_octet, read_number}
use Rattle.coap_config.proofs.examples.addresses.Goals as goal

pub returns : goal.returns
unfolding ipv4_of read_ipv4 read_octet read_number ipv6_between
returns c = record { four = refl; any = refl; name = refl; name_in_brackets = refl }
