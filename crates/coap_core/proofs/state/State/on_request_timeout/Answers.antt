use Rattle.std.proofs.Common.{◌≡◌, ◌≤◌, ◌∙◌, Some, length, refl, sym, subst}
use Rattle.coap_pending.specs.declared.timer.Fire.TheVariants.{Again, GiveUp}
use Rattle.coap_pending.specs.Exchanges.{fire_of_sending, fired_exchange, IsDue}
use Rattle.coap_pending.specs.Table.{IsRising, item_at, changed_at}
use Rattle.coap_message.specs.Datagram.{holding}
use Rattle.coap_model.specs.declared.deed.Silence.TheVariants.{NotAcknowledged}
use Rattle.coap_model.specs.Ticks.{gives_up, resends}
use Rattle.coap_model.specs.declared.deed.Deed.TheVariants.{Resent}
use Rattle.coap_model.specs.State.{State, Step}
use Rattle.coap_core.specs.Done.{DoesSo}
use Rattle.coap_core.proofs.Awaiting.{sent-open}
use Rattle.coap_core.proofs.Ticking.{changed-found, changed-same, fired-same, again-step, over-step}
use Rattle.coap_core.proofs.state.State.on_request_timeout.Goals as goal

pub put_form-requires-clause-there : goal.put_form-requires-clause-there
put_form-requires-clause-there g c =
    let x = c.requires.ended.item in
    let here : item_at c.args.due.number c.self.inside.under_way.exchanges.items ≡ Some x = subst (λ (v : State). item_at c.args.due.number v.exchanges ≡ Some x) (sym c.self.view_is) c.requires.ended.found in
    rw (c.fire.ensures.fired, changed-found c.args.due.number (fired_exchange c.args.now) c.self.inside.under_way.exchanges.items x here) refl

pub put_form-requires-clause-fits : goal.put_form-requires-clause-fits
put_form-requires-clause-fits g c =
    let x = c.requires.ended.item in
    let w = c.args.self.now in
    let found = c.requires.ended.found in
    let here : item_at c.args.due.number c.self.inside.under_way.exchanges.items ≡ Some x = subst (λ (v : State). item_at c.args.due.number v.exchanges ≡ Some x) (sym c.self.view_is) found in
    let again : Again ≡ fire_of_sending c.args.now x.sending = rw here at c.in-Again.ensures.exact in
    let fits : length x.form ≤ c.args.out.now.room = subst (λ (s : Step). length s.bytes ≤ c.args.out.now.room) (again-step w c.args.now c.args.due.number x found again) c.requires.can.fits in
    rw (c.fire.ensures.fired, changed-found c.args.due.number (fired_exchange c.args.now) c.self.inside.under_way.exchanges.items x here) fits

pub give_up-requires-clause-unanswered : goal.give_up-requires-clause-unanswered
give_up-requires-clause-unanswered g c =
    let x = c.requires.ended.item in
    let found = c.requires.ended.found in
    let here : item_at c.args.due.number c.self.inside.under_way.exchanges.items ≡ Some x = subst (λ (v : State). item_at c.args.due.number v.exchanges ≡ Some x) (sym c.self.view_is) found in
    let due : IsDue c.args.now x = c.requires.ended.holds.0 in
    rw (c.fire.ensures.fired, changed-found c.args.due.number (fired_exchange c.args.now) c.self.inside.under_way.exchanges.items x here) (sent-open x due.0)

pub returns-in-Again : goal.returns-in-Again
returns-in-Again g c =
    let x = c.requires.ended.item in
    let w = c.args.self.now in
    let found = c.requires.ended.found in
    let here : item_at c.args.due.number c.self.inside.under_way.exchanges.items ≡ Some x = subst (λ (v : State). item_at c.args.due.number v.exchanges ≡ Some x) (sym c.self.view_is) found in
    let again : Again ≡ fire_of_sending c.args.now x.sending = rw here at c.in-Again.ensures.exact in
    let bytes : c.put_form.new.out ≡ holding c.args.out.now x.form = rw (c.fire.ensures.fired, changed-found c.args.due.number (fired_exchange c.args.now) c.self.inside.under_way.exchanges.items x here) at c.put_form.ensures in
    let state : c.advance.new.self ≡ (resends w c.args.now c.args.due.number x).state = rw (← c.self.view_is) (rw c.fire.ensures.fired at c.advance.ensures) in
    rw (again-step w c.args.now c.args.due.number x found again) ((λ i. record { send = Some (c.requires.ended.holds.1 i); deed = Resent c.args.due.number }), bytes, state)

pub returns-in-GiveUp : goal.returns-in-GiveUp
returns-in-GiveUp g c =
    let t = c.self.inside.under_way.exchanges in
    let x = c.requires.ended.item in
    let w = c.args.self.now in
    let found = c.requires.ended.found in
    let here : item_at c.args.due.number t.items ≡ Some x = subst (λ (v : State). item_at c.args.due.number v.exchanges ≡ Some x) (sym c.self.view_is) found in
    let rising : IsRising 0 t.items = subst (λ (v : State). IsRising 0 v.exchanges) (sym c.self.view_is) c.requires.can.ready.can.exchanges in
    let over : GiveUp ≡ fire_of_sending c.args.now x.sending = rw here at c.in-GiveUp.ensures.exact in
    let same : changed_at c.args.due.number (fired_exchange c.args.now) t.items ≡ t.items = changed-same c.args.due.number (fired_exchange c.args.now) 0 t.items x rising here (fired-same c.args.now x over) in
    let stays : c.fire.new.self ≡ c.self.inside.under_way = c.fire.ensures.fired ∙ (λ i. record c.self.inside.under_way { exchanges = record t { items = same i } }) in
    let does : DoesSo (gives_up w c.args.now c.args.due.number NotAcknowledged) c.give_up.result c.args.out.now c.give_up.new.out c.give_up.new.self = rw (← c.self.view_is) (rw stays at c.give_up.ensures) in
    subst (λ (s : Step). DoesSo s c.give_up.result c.args.out.now c.give_up.new.out c.give_up.new.self) (sym (over-step w c.args.now c.args.due.number x found over)) does
