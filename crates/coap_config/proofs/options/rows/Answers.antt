use Rattle.std.proofs.Common.{refl}
use Rattle.coap_config.proofs.options.rows.Goals as goal

pub returns : goal.returns
returns c = refl
