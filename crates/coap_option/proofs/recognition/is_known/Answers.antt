use Rattle.std.proofs.Common.{rules}
use Rattle.coap_option.proofs.recognition.is_known.Goals as goal

pub returns-in-None : goal.returns-in-None
returns-in-None c = search rules
