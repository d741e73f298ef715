use Rattle.std.proofs.Common.{refl}
use Rattle.coap_config.specs.Config.{table_said}
use Rattle.coap_config.proofs.examples.first_faults.Goals as goal

pub returns : goal.returns
unfolding table_said
returns c = record { version = refl; missing_version = refl; first_key = refl; key = refl; names = refl; limits = refl; hosts = refl; first_map = refl; map_key = refl; prefix = refl }
