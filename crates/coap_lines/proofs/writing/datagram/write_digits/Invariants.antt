use Rattle.std.proofs.Common.{◌≡◌, ◌*◌, ◌++◌, take, drop}
use Rattle.hex.specs.Hex.{encode_upper}
use Rattle.coap_lines.proofs.writing.datagram.write_digits.Given as goal

-- the digits so far, with those of the bytes that are left, are those of all bytes
abbrev pub invariant-loop-i : goal.invariant-loop-i
invariant-loop-i l = take (2 * l.i) l.places ++ encode_upper (drop l.i l.bytes) ≡ encode_upper l.bytes
