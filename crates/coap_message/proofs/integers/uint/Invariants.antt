use Rattle.std.proofs.Common.{◌≡◌, ◌+◌, ◌*◌, ◌^◌, ◌<◌, drop, length}
use Rattle.coap_message.specs.Uint.{uint_of}
use Rattle.coap_message.proofs.integers.uint.Given as goal

abbrev pub invariant-loop-byte : goal.invariant-loop-byte
invariant-loop-byte l = record {
  value : l.number * 256 ^ length (drop l.byte-index l.value) + uint_of (drop l.byte-index l.value) ≡ uint_of l.value;
  below : l.number < 256 ^ l.byte-index;
}
