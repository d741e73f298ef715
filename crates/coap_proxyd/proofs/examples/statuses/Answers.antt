use Rattle.std.proofs.Common.{refl}
use Rattle.coap_proxyd.proofs.examples.statuses.Goals as goal

pub returns : goal.returns
returns c = record { arguments = refl; address = refl; proxy_option = refl; file = refl; config = refl; map_option = refl; socket = refl; memory = refl; event = refl; memory_at = refl }
