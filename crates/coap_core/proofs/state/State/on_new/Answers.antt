use Rattle.std.proofs.Common.{◌≡◌, false, refl, sym}
use Rattle.coap_model.specs.State.{can_reply}
use Rattle.coap_core.proofs.Asking.{lacking, remembered-as}
use Rattle.coap_core.proofs.state.State.on_new.Goals as goal

pub returns-then-not-can_reply : goal.returns-then-not-can_reply
returns-then-not-can_reply g c =
    let m = c.args.arrival.message.now in
    let none : can_reply c.args.self.now c.args.arrival.now m.kind ≡ false = rw (← c.kind.ensures) (sym c.if-not-can_reply.ensures) in
    remembered-as c.args.arrival (lacking c.args.self.now c.args.arrival.now c.args.arrival.from m none) refl c.lack_id.ensures
