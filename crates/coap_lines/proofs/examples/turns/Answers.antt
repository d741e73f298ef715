use Rattle.std.proofs.Common.{refl}
use Rattle.std.specs.Fmt.{digits}
use Rattle.coap_uri.specs.Address.{ipv4_of}
use Rattle.hex.specs.Hex.{encode_with}
use Rattle.coap_lines.specs.Turns.{turn_text}
use Rattle.coap_lines.proofs.examples.turns.Goals as goal

pub returns : goal.returns
unfolding digits ipv4_of encode_with turn_text
returns c = record { datagram = refl; nothing = refl; ticks = refl }
