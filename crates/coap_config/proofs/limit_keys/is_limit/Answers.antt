use Rattle.std.proofs.Common.{rules}
use Rattle.coap_config.proofs.limit_keys.is_limit.Goals as goal

pub returns-else-shared : goal.returns-else-shared
returns-else-shared c = search rules
