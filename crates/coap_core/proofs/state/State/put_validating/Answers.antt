use Rattle.std.proofs.Common.{rules}
use Rattle.coap_core.proofs.state.State.put_validating.Goals as goal

pub returns-then-is_ok-clause-copy : goal.returns-then-is_ok-clause-copy
returns-then-is_ok-clause-copy g c = search rules

pub returns-then-is_ok-clause-form : goal.returns-then-is_ok-clause-form
returns-then-is_ok-clause-form g c = search rules
