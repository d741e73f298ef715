use Rattle.std.proofs.Common.{refl}
use Rattle.std.specs.Fmt.{digits}
use Rattle.std.specs.Net.Text.{hex, hex_groups_text, ipv6_text}
use Rattle.percent_encoding.specs.Percent.{percent_encode_byte}
use Rattle.coap_stats.proofs.examples.parts.Goals as goal

pub returns : goal.returns
unfolding digits percent_encode_byte ipv6_text hex_groups_text hex
returns c = record { whole = refl; root = refl; prefix = refl; way = refl; ipv4 = refl; ipv6 = refl; others = refl; holder = refl }
