use Rattle.std.proofs.Common.{◌≡◌, ◌++◌, ◌≤◌, length, decimal}
use Rattle.coap_uri.proofs.plain.read_digits.Given as goal

abbrev pub invariant-loop-digit : goal.invariant-loop-digit
invariant-loop-digit l = (l.text ≡ decimal l.number ++ l.rest) × (1 ≤ l.number)

abbrev pub decreases-loop-digit : goal.decreases-loop-digit
decreases-loop-digit l = length l.rest
