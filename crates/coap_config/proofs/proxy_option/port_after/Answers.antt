use Rattle.std.proofs.Common.{rules}
use Rattle.coap_config.proofs.proxy_option.port_after.Goals as goal

pub returns-then-is_empty : goal.returns-then-is_empty
returns-then-is_empty c = search rules

pub returns : goal.returns
returns c = search rules
