use Rattle.std.proofs.Common.{refl}
use Rattle.std.specs.Net.Reader.{read_number, read_octet, read_ipv4}
use Rattle.percent_encoding.specs.Percent.{percent_decode}
use Rattle.coap_uri.specs.Address.{ipv4_of}
use Rattle.test_definitions.proofs.routes.cut.Goals as goal

pub returns : goal.returns
unfolding percent_decode ipv4_of read_number read_octet read_ipv4
returns c = record {
  root = refl;
  one = refl;
  ending_slash = refl;
  two_slashes = refl;
  escape = refl;
  no_slash = refl;
  no_path = refl;
  odd_path = refl;
  odd_query = refl;
  empty_query = refl;
  address = refl;
  leading_zero = refl;
  too_great = refl;
  three = refl;
}
