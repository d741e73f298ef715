use Rattle.std.proofs.Common.{◌≡◌, ◌≤◌, ◌∙◌, List, ℕ, Some, length, refl, sym, ap, subst}
use Rattle.coap_pending.specs.declared.exchange.Sending.{Sending}
use Rattle.coap_pending.specs.Exchanges.{sent}
use Rattle.coap_pending.specs.Table.{changed_at}
use Rattle.coap_pending.specs.Timers.{started}
use Rattle.coap_message.specs.Datagram.{holding}
use Rattle.coap_model.specs.Ticks.{sends}
use Rattle.coap_model.specs.declared.deed.Deed.TheVariants.{Sent}
use Rattle.coap_model.specs.State.{State, next_id, later}
use Rattle.coap_core.specs.Dues.{sending_at, form_at}
use Rattle.coap_core.proofs.Keeping.{id-for-queued}
use Rattle.coap_core.proofs.Ticking.{changed-found, sent-form, sent-state}
use Rattle.coap_core.proofs.state.State.send.Goals as goal

pub take_id-id-requires : goal.take_id-id-requires
take_id-id-requires g c =
    let x = c.requires.queued.item in
    let found = c.requires.queued.found in
    let queued = c.requires.queued.holds.0 in
    id-for-queued c.args.self.now c.args.timing.now c.args.due.number x c.requires.can.ready.can c.requires.can.ready.onward found queued

pub put_form-requires-clause-there : goal.put_form-requires-clause-there
put_form-requires-clause-there g c =
    let w = c.args.self.now in
    let items : c.self-2.inside.under_way.exchanges.items ≡ w.exchanges = ap (λ (v : State). v.exchanges) (c.self-2.view_is ∙ c.take_id-id.ensures.given) in
    let s : Sending = record { asked = c.self.inside.events; id = c.take_id-id.result; timer = c.start-timer.result } in
    rw (c.send.ensures.sent, items, changed-found c.args.due.number (sent s) w.exchanges c.requires.queued.item c.requires.queued.found) refl

pub put_form-requires-clause-fits : goal.put_form-requires-clause-fits
put_form-requires-clause-fits g c =
    let x = c.requires.queued.item in
    let w = c.args.self.now in
    let found = c.requires.queued.found in
    let items : c.self-2.inside.under_way.exchanges.items ≡ w.exchanges = ap (λ (v : State). v.exchanges) (c.self-2.view_is ∙ c.take_id-id.ensures.given) in
    let s : Sending = record { asked = c.self.inside.events; id = c.take_id-id.result; timer = c.start-timer.result } in
    let form : form_at c.args.due.number (changed_at c.args.due.number (sent s) w.exchanges) ≡ (sending_at w c.args.timing c.args.due.number).bytes = sent-form w c.args.timing c.args.due.number s x found c.take_id-id.ensures.id in
    rw (c.send.ensures.sent, items) (subst (λ (b : List ℕ). length b ≤ c.args.out.now.room) (sym form) c.requires.can.fits)

pub returns : goal.returns
returns g c =
    let x = c.requires.queued.item in
    let w = c.args.self.now in
    let v = c.take_id-id.new.self in
    let found = c.requires.queued.found in
    let items : c.self-2.inside.under_way.exchanges.items ≡ w.exchanges = ap (λ (v : State). v.exchanges) (c.self-2.view_is ∙ c.take_id-id.ensures.given) in
    let s : Sending = record { asked = c.self.inside.events; id = c.take_id-id.result; timer = c.start-timer.result } in
    let asked : c.self.inside.events ≡ w.events = ap (λ (v : State). v.events) c.self.view_is in
    let is : s ≡ record { asked = w.events; id = next_id w; timer = started c.args.timing.now c.args.timing.draw } = λ i. record { asked = asked i; id = c.take_id-id.ensures.id i; timer = c.start-timer.ensures.exact i } in
    let form : form_at c.args.due.number (changed_at c.args.due.number (sent s) w.exchanges) ≡ (sending_at w c.args.timing c.args.due.number).bytes = sent-form w c.args.timing c.args.due.number s x found c.take_id-id.ensures.id in
    let put : c.put_form.new.out ≡ holding c.args.out.now (form_at c.args.due.number (changed_at c.args.due.number (sent s) w.exchanges)) = rw (c.send.ensures.sent, items) at c.put_form.ensures in
    let after : c.advance.new.self ≡ later (record v { exchanges = changed_at c.args.due.number (sent s) v.exchanges }) c.args.timing.now = rw (← c.self-2.view_is) (rw c.send.ensures.sent at c.advance.ensures) in
    let state : c.advance.new.self ≡ (sends w c.args.timing.now c.args.timing.draw c.args.due.number x).state = after ∙ sent-state w v c.args.timing.now c.args.timing.draw c.args.due.number s x found c.take_id-id.ensures.given is in
    let bytes : c.put_form.new.out ≡ holding c.args.out.now (sending_at w c.args.timing c.args.due.number).bytes = put ∙ ap (λ (b : List ℕ). holding c.args.out.now b) form in
    rw found ((λ i. record { send = Some (c.requires.queued.holds.1 i); deed = Sent c.args.due.number }), rw found at bytes, state)
