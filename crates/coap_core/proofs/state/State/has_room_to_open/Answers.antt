use Rattle.std.proofs.Common.{rules}
use Rattle.coap_core.proofs.state.State.has_room_to_open.Goals as goal

pub returns-then-has_waiter_room : goal.returns-then-has_waiter_room
returns-then-has_waiter_room g c = search rules
