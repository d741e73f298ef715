use Rattle.std.proofs.Common.{refl}
use Rattle.std.specs.Net.Reader.{read_number, read_octet, read_ipv4}
use Rattle.percent_encoding.specs.Percent.{percent_decode}
use Rattle.coap_uri.specs.Address.{ipv4_of}
use Rattle.test_definitions.proofs.routes.read.Goals as goal

pub returns : goal.returns
unfolding percent_decode ipv4_of read_number read_octet read_ipv4
returns c = record {
  plain = refl;
  port = refl;
  last_port = refl;
  port_0 = refl;
  query = refl;
  other_separator = refl;
  address = refl;
  upper_case = refl;
  escaped_upper_case = refl;
  escaped_digit = refl;
  beyond_ascii = refl;
  root = refl;
  no_host = refl;
  user = refl;
  password = refl;
  fragment = refl;
  scheme = refl;
}
