use Rattle.coap_lines.proofs.Numerals.{number_of-is, number_of-written}
use Rattle.coap_lines.proofs.laws.numbers_are_read.Goals as goal

pub returns : goal.returns
returns c = record { read = number_of-written; only = number_of-is }
