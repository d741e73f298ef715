use Rattle.std.proofs.Common.{rules}
use Rattle.coap_uri.proofs.Digits.{first_digit}
use Rattle.coap_uri.proofs.plain.read_digits.Goals as goal

pub loop-digit-init : goal.loop-digit-init
loop-digit-init c = search (rules, first_digit)
