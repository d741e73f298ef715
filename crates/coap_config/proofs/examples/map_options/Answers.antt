use Rattle.std.proofs.Common.{refl}
use Rattle.coap_config.proofs.examples.map_options.Goals as goal

pub returns : goal.returns
returns c = record { map = refl; second_equals = refl; no_equals = refl; nothing = refl }
