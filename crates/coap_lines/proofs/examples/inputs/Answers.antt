use Rattle.std.proofs.Common.{refl}
use Rattle.std.specs.Fmt.{digits}
use Rattle.coap_lines.specs.Numbers.{number_of, group_of}
use Rattle.coap_uri.specs.Address.{ipv4_of}
use Rattle.std.specs.Net.Reader.{read_ipv4, read_octet, read_number}
use Rattle.coap_lines.specs.Endpoints.{v4_endpoint, segments_read, v6_endpoint}
use Rattle.coap_lines.specs.Datagrams.{bytes_read}
use Rattle.hex.specs.Hex.{decode_pairs}
use Rattle.coap_lines.specs.Turns.{arrival_of, event_of, turn_of}
use Rattle.coap_lines.specs.Scripts.{script_from}
use Rattle.coap_lines.proofs.examples.inputs.Goals as goal

pub returns : goal.returns
unfolding digits number_of group_of ipv4_of read_ipv4 read_octet read_number v4_endpoint segments_read v6_endpoint bytes_read decode_pairs arrival_of event_of turn_of script_from
returns c = record { no_lines = refl; last = refl; feed = refl; nothing = refl; skipped = refl; bad = refl; back = refl }
