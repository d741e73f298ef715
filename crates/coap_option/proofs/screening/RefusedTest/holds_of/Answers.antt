use Rattle.std.proofs.Common.{rules}
use Rattle.coap_option.proofs.screening.RefusedTest.holds_of.Goals as goal

pub returns-then-is_unsafe : goal.returns-then-is_unsafe
returns-then-is_unsafe c = search rules

pub returns-else-is_unsafe : goal.returns-else-is_unsafe
returns-else-is_unsafe c = search rules
