use Rattle.std.proofs.Common.{rules}
use Rattle.coap_target.proofs.route_texts.read_origin.Goals as goal

pub returns-in-Ok-remote : goal.returns-in-Ok-remote
returns-in-Ok-remote c = search rules
