use Rattle.std.proofs.Common.{rules}
use Rattle.coap_core.proofs.Records.{room-all, room-own}
use Rattle.coap_core.proofs.state.State.remember.Goals as goal

pub keep_in_room-requires-clause-room : goal.keep_in_room-requires-clause-room
keep_in_room-requires-clause-room g c = search (room-all, rules)

pub keep_in_room-requires-clause-client_room : goal.keep_in_room-requires-clause-client_room
keep_in_room-requires-clause-client_room g c = search (room-own, rules)

pub keep_in_room-requires-in-Non : goal.keep_in_room-requires-in-Non
keep_in_room-requires-in-Non g c = search (room-all, room-own, rules)
