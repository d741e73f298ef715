use Rattle.std.proofs.Common.{◌≡◌, ◌^◌, ◌<◌, take}
use Rattle.std.specs.Str.Parse.{AllDigits, digits_value}
use Rattle.coap_lines.proofs.reading.number.read_number_before.Given as goal

-- the bytes so far are digits, and the number is theirs
abbrev pub invariant-loop-place : goal.invariant-loop-place
invariant-loop-place l = AllDigits 10 (take l.place l.text) × (l.number ≡ digits_value 10 (take l.place l.text)) × (l.number < 2 ^ 64)
