use Rattle.std.proofs.Common.{◌≡◌, ◌≤◌, length, take}
use Rattle.std.specs.Str.Parse.{AllDigits, digits_value}
use Rattle.coap_lines.proofs.reading.number.read_short_before.Given as goal

-- the bytes so far are digits, and the number is theirs
abbrev pub invariant-digits : goal.invariant-digits
invariant-digits l = (l.place ≤ length l.text) × AllDigits 10 (take l.place l.text) × (l.number ≡ digits_value 10 (take l.place l.text))
