use Rattle.std.proofs.Common.{rules}
use Rattle.coap_config.proofs.limit_table.limits_of.Goals as goal

pub returns-in-Two : goal.returns-in-Two
returns-in-Two c = search rules
