use Rattle.std.proofs.Common.{rules}
use Rattle.coap_config.proofs.proxy_option.read_port.Goals as goal

pub returns-in-Ok : goal.returns-in-Ok
returns-in-Ok c = search rules
