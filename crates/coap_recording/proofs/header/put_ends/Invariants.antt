use Rattle.std.proofs.Common.{◌≡◌, ◌++◌, take}
use Rattle.std.specs.List.{flat_map}
use Rattle.coap_recording.specs.Header.{feed_ended}
use Rattle.coap_recording.proofs.header.put_ends.Given as goal

-- what ends the bytes so far was added
abbrev pub invariant-loop-byte : goal.invariant-loop-byte
invariant-loop-byte l = l.out.items ≡ l.fn.out.items ++ flat_map feed_ended (take l.byte-index l.word)
