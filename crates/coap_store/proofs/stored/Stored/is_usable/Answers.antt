use Rattle.std.proofs.Common.{rules}
use Rattle.coap_store.proofs.stored.Stored.is_usable.Goals as goal

pub returns-then-is_fresh : goal.returns-then-is_fresh
returns-then-is_fresh c = search rules
