use Rattle.std.proofs.Common.{◌≡◌, ◌<◌, true, refl, sym, subst}
use Rattle.coap_pending.specs.Ids.{left_of}
use Rattle.coap_pending.specs.Waiters.{is_waiting}
use Rattle.coap_model.specs.State.{State}
use Rattle.coap_core.proofs.Keeping.{id-for-waiting}
use Rattle.coap_core.proofs.state.State.deliver.Goals as goal

pub take_id-requires : goal.take_id-requires
take_id-requires g c =
    let v = c.requires.waits.item in
    let waits : is_waiting v ≡ true = rw c.requires.waits.holds.waits refl in
    subst (λ (w : State). 0 < left_of c.args.timing.now w.ids) (sym c.in_ok-note_delivery.ensures.ok) (id-for-waiting c.args.self.now c.args.timing.now c.args.delivery.waiter.number v c.requires.ready.can c.requires.ready.onward c.requires.waits.found waits)
