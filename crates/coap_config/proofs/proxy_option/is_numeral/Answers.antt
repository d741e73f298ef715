use Rattle.std.proofs.Common.{rules}
use Rattle.coap_config.proofs.proxy_option.is_numeral.Goals as goal

pub returns-then-not-starts_with : goal.returns-then-not-starts_with
returns-then-not-starts_with c = search rules
