use Rattle.std.proofs.Common.{refl}
use Rattle.std.specs.Fmt.{digits}
use Rattle.coap_lines.specs.Numbers.{number_of, group_of}
use Rattle.coap_uri.specs.Address.{ipv4_of}
use Rattle.std.specs.Net.Reader.{read_ipv4, read_octet, read_number}
use Rattle.coap_lines.specs.Endpoints.{v4_endpoint, segments_read, v6_endpoint}
use Rattle.coap_lines.specs.Datagrams.{bytes_read}
use Rattle.hex.specs.Hex.{decode_pairs}
use Rattle.coap_lines.specs.Turns.{arrival_of, event_of, turn_of}
use Rattle.coap_lines.proofs.examples.bad_events.Goals as goal

pub returns : goal.returns
unfolding digits number_of group_of ipv4_of read_ipv4 read_octet read_number v4_endpoint segments_read v6_endpoint bytes_read decode_pairs arrival_of event_of turn_of
returns c = record { too_late = refl; too_early = refl; leading_zero = refl; draw = refl; two_spaces = refl; another_word = refl; odd = refl; no_digits = refl; more = refl; draw_zeros = refl; plus = refl; minus = refl; fraction = refl; huge = refl; capitals = refl; space_before = refl; space_after = refl; tabs = refl; carriage_return = refl; more_than_a_tick = refl; no_event = refl; no_draw = refl; no_bytes = refl; another_digit = refl; two_hyphens = refl; empty = refl }
