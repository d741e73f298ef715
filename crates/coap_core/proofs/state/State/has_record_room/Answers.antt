use Rattle.std.proofs.Common.{sym}
use Rattle.coap_core.proofs.Records.{room-is}
use Rattle.coap_core.proofs.state.State.has_record_room.Goals as goal

pub returns-then-not-is_full : goal.returns-then-not-is_full
returns-then-not-is_full g c =
    rw (c.is_client_full.ensures.exact, c.records-records.ensures)
    (room-is c.args.self.now c.args.now c.args.source c.args.kind c.requires (sym (rw c.records-records.ensures at c.if-not-is_full.ensures.exact)))
