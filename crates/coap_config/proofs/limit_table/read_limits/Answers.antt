use Rattle.std.proofs.Common.{◌≡◌, Some, Ok, Result, ap, subst}
use Rattle.toml.specs.Data.{Data, Members, as_table, table}
use Rattle.coap_limits.specs.Limits.{Limits}
use Rattle.coap_uri.specs.Answer.{Answers}
use Rattle.coap_config.specs.declared.config_error.ConfigError.{ConfigError}
use Rattle.coap_config.specs.declared.config_error.ConfigError.TheVariants as errors
use Rattle.coap_config.specs.declared.tables.Place.TheVariants as place
use Rattle.coap_config.specs.declared.tables.Version.{Version}
use Rattle.coap_config.specs.Tree.{after}
use Rattle.coap_config.specs.Config.{keys_checked, limits_checked, limits_in, limits_said}
use Rattle.coap_config.proofs.limit_table.read_limits.Goals as goal

-- a table whose keys are all known says what its values are
said-is : (version : Version) (said : Data) (members : Members) (values : Limits) → Some members ≡ as_table said → keys_checked (place.Limits version) members ≡ Ok tt → values ≡ limits_in version members → limits_checked values ≡ limits_said version (Some said)
said-is version (table found) said values at known are =
    let same : said ≡ found = cc in
    subst (λ (m : Members). limits_checked values ≡ after (keys_checked (place.Limits version) m) (λ _. limits_checked (limits_in version m))) same (rw known (ap limits_checked are))
said-is version _ said values at known are = absurd cc

pub returns : goal.returns
returns c = rw c.in-Some.is (
    subst (λ (r : Result Limits ConfigError). Answers errors.OutOfMemory c.check_limits-2.result r)
    (said-is c.args.version _ _ c.values_of.result c.in-Some-as_table.ensures c.in_ok-check_keys.ensures c.values_of.ensures)
    c.check_limits-2.ensures)
