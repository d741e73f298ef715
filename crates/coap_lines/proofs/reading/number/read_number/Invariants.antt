use Rattle.std.proofs.Common.{◌≡◌, ◌^◌, ◌<◌, take}
use Rattle.std.specs.Str.Parse.{AllDigits, digits_value}
use Rattle.coap_lines.proofs.reading.number.read_number.Given as goal

-- the bytes so far are digits, and the number is theirs
abbrev pub invariant-loop-byte : goal.invariant-loop-byte
invariant-loop-byte l = AllDigits 10 (take l.byte-index l.text) × (l.number ≡ digits_value 10 (take l.byte-index l.text)) × (l.number < 2 ^ 64)
