use Rattle.std.proofs.Common.{refl}
use Rattle.coap_config.specs.Config.{table_said}
use Rattle.coap_config.proofs.examples.limits.Goals as goal

pub returns : goal.returns
unfolding table_said
returns c = record { least = refl; greatest = refl; below = refl; above = refl; negative = refl; text = refl; list = refl; in_their_order = refl; key = refl; key_before_values = refl; no_table = refl }
