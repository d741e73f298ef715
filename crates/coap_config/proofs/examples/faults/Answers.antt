use Rattle.std.proofs.Common.{refl}
use Rattle.toml.proofs.OnLiterals.{toml_on_literals}
use Rattle.coap_config.specs.Config.{table_said}
use Rattle.coap_target.specs.RouteTexts.{routes_of}
use Rattle.coap_config.proofs.examples.faults.Goals as goal

pub returns : goal.returns
unfolding toml_on_literals table_said routes_of
returns c = record { no_toml = refl; nothing = refl; version_0 = refl; version_3 = refl; version_text = refl; key = refl; names = refl; name = refl; hosts = refl; host = refl; map = refl; a_map = refl; map_key = refl; no_prefix = refl; no_origin = refl; origin_number = refl; routes = refl }
