use Rattle.coap_lines.proofs.TurnTexts.{turn_of-is, turn_of-written}
use Rattle.coap_lines.proofs.laws.turns_are_read.Goals as goal

pub returns : goal.returns
returns c = record { read = turn_of-written; only = turn_of-is }
