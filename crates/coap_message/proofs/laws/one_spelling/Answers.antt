use Rattle.std.proofs.Common.{sym, ◌∙◌}
use Rattle.coap_message.proofs.Spellings.{spelled, spelled_once}
use Rattle.coap_message.proofs.laws.one_spelling.Goals as goal

pub returns : goal.returns
returns c = record { no_two = λ a b m s t. spelled_once a m s ∙ sym (spelled_once b m t); one = spelled }
