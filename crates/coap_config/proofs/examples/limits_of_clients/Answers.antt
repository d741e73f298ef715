use Rattle.std.proofs.Common.{refl}
use Rattle.coap_config.specs.Config.{table_said}
use Rattle.coap_config.proofs.examples.limits_of_clients.Goals as goal

pub returns : goal.returns
unfolding table_said
returns c = record { version_2 = refl; empty = refl; con_records = refl; non_records = refl; exchanges = refl; waiters = refl; shared = refl; given = refl; greater = refl; least = refl; below = refl; above = refl; text = refl; after_shared_ones = refl; in_their_order = refl; unknown = refl; key = refl; as_shared = refl; shared_fault = refl; defaults = refl }
