use Rattle.std.proofs.Common.{refl}
use Rattle.std.specs.Fmt.{digits}
use Rattle.std.specs.Net.Text.{hex, hex_groups_text, ipv6_text}
use Rattle.coap_stats.proofs.examples.holders_in_words.Goals as goal

pub returns : goal.returns
unfolding digits ipv6_text hex_groups_text hex
returns c = record { held = refl; ports = refl; age = refl; none = refl }
