use Rattle.std.proofs.Common.{rules}
use Rattle.coap_core.proofs.state.State.has_room_to_join.Goals as goal

pub returns-else-has_waiter_room : goal.returns-else-has_waiter_room
returns-else-has_waiter_room g c = search rules
