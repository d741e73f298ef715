use Rattle.std.proofs.Common.{refl}
use Rattle.std.specs.Fmt.{digits}
use Rattle.coap_uri.specs.Address.{ipv4_of}
use Rattle.hex.specs.Hex.{encode_with}
use Rattle.coap_lines.specs.Lines.{line_of}
use Rattle.coap_lines.proofs.examples.lines.Goals as goal

pub returns : goal.returns
unfolding digits ipv4_of encode_with line_of
returns c = record { four = refl; groups = refl; empty = refl }
