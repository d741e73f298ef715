use Rattle.std.proofs.Common.{rules}
use Rattle.coap_config.proofs.map_option.parse_map_option.Goals as goal

pub returns : goal.returns
returns c = search rules
