use Rattle.std.proofs.Common.{rules}
use Rattle.coap_config.proofs.proxy_option.read_name.Goals as goal

pub returns : goal.returns
returns c = search rules
