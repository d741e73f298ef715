use Rattle.std.proofs.Common.{rules}
use Rattle.coap_option.proofs.selection.InKeyTest.holds_of.Goals as goal

pub returns-else-not-is_no_cache_key : goal.returns-else-not-is_no_cache_key
returns-else-not-is_no_cache_key c = search rules

pub returns-then-not-is_no_cache_key : goal.returns-then-not-is_no_cache_key
returns-then-not-is_no_cache_key c = search rules
