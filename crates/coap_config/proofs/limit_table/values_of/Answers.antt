use Rattle.std.proofs.Common.{rules}
use Rattle.coap_config.proofs.limit_table.values_of.Goals as goal

pub returns-in-One : goal.returns-in-One
returns-in-One c = search rules

pub returns-in-Two : goal.returns-in-Two
returns-in-Two c = search rules
