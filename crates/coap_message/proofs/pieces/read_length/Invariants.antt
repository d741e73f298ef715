use Rattle.std.proofs.Common.{◌≡◌, ◌+◌, ◌≤◌, length}
use Rattle.std.specs.Prelude.{option_map}
use Rattle.coap_message.specs.Pieces.{length_at}
use Rattle.coap_message.proofs.pieces.read_length.Given as goal

abbrev pub invariant-lengths : goal.invariant-lengths
invariant-lengths l = record {
  found : option_map (λ found. (l.len + found.0, found.1)) (length_at l.rest) ≡ length_at l.bytes;
  left : length l.rest ≤ length l.bytes;
}

abbrev pub decreases-lengths : goal.decreases-lengths
decreases-lengths l = length l.rest
