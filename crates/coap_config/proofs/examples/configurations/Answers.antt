use Rattle.std.proofs.Common.{refl}
use Rattle.toml.proofs.OnLiterals.{toml_on_literals}
use Rattle.coap_config.specs.Config.{table_said}
use Rattle.coap_config.proofs.examples.configurations.Goals as goal

pub returns : goal.returns
unfolding toml_on_literals table_said
returns c = record { version = refl; toml = refl; names = refl; no_names = refl; a_limit = refl; hosts = refl; maps = refl; no_maps = refl; limit_keys = refl }
