use Rattle.std.proofs.Common.{rules}
use Rattle.coap_forward.proofs.answers.left_to_show.Goals as goal

pub returns-then-not-answer : goal.returns-then-not-answer
returns-then-not-answer c = search rules
