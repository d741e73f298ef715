use Rattle.std.proofs.Common.{rules}
use Rattle.coap_message.proofs.code.Code.is_response.Goals as goal

pub returns-then-class-ge2 : goal.returns-then-class-ge2
returns-then-class-ge2 c = search rules
