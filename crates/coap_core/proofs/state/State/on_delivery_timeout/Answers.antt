use Rattle.std.proofs.Common.{◌≡◌, ◌≤◌, ◌∙◌, List, ℕ, Some, length, sym, ap, subst}
use Rattle.coap_pending.specs.declared.timer.Fire.TheVariants.{Again, GiveUp}
use Rattle.coap_pending.specs.Table.{Numbered, IsRising, item_at, changed_at}
use Rattle.coap_pending.specs.Waiters.{fire_of_state, fired_waiter}
use Rattle.coap_pending.specs.declared.waiter.Waiter.{Waiter}
use Rattle.coap_message.specs.Datagram.{holding}
use Rattle.coap_model.specs.declared.deed.Deed.TheVariants.{Redelivered}
use Rattle.coap_model.specs.Ticks.{abandons, redelivers}
use Rattle.coap_model.specs.State.{State, Step}
use Rattle.coap_core.specs.Done.{DoesSo}
use Rattle.coap_core.specs.Dues.{answer_at, answer_in_state}
use Rattle.coap_core.proofs.Serving.{again-step, over-step, fired-answer, fired-same, fired-told}
use Rattle.coap_core.proofs.Ticking.{changed-found, changed-same}
use Rattle.coap_core.proofs.state.State.on_delivery_timeout.Goals as goal

-- its answer stays what it was
answer : (n now : ℕ) (items : List (Numbered Waiter)) (v : Waiter) → item_at n items ≡ Some v → answer_at n (changed_at n (fired_waiter now) items) ≡ answer_in_state v.state
answer n now items v e = rw (changed-found n (fired_waiter now) items v e) (fired-answer now v.state)

pub put_answer-requires-clause-told : goal.put_answer-requires-clause-told
put_answer-requires-clause-told g c =
    let v = c.requires.ended.item in
    let there : item_at c.args.due.number c.self.inside.under_way.waiters.items ≡ Some v = subst (λ (s : State). item_at c.args.due.number s.waiters ≡ Some v) (sym c.self.view_is) c.requires.ended.found in
    let fired : item_at c.args.due.number (changed_at c.args.due.number (fired_waiter c.args.now) c.self.inside.under_way.waiters.items) ≡ Some (fired_waiter c.args.now v) = changed-found c.args.due.number (fired_waiter c.args.now) c.self.inside.under_way.waiters.items v there in
    record { item = fired_waiter c.args.now v; found = rw c.fire_waiter.ensures.fired fired; holds = fired-told c.args.now v.state c.requires.ended.holds.0 }

pub put_answer-requires-clause-fits : goal.put_answer-requires-clause-fits
put_answer-requires-clause-fits g c =
    let v = c.requires.ended.item in
    let there : item_at c.args.due.number c.self.inside.under_way.waiters.items ≡ Some v = subst (λ (s : State). item_at c.args.due.number s.waiters ≡ Some v) (sym c.self.view_is) c.requires.ended.found in
    let again : Again ≡ fire_of_state c.args.now v.state = rw there at c.in-Again.ensures.exact in
    let fits : length (answer_in_state v.state) ≤ c.args.out.now.room = subst (λ (s : Step). length s.bytes ≤ c.args.out.now.room) (again-step c.args.self.now c.args.now c.args.due.number v c.requires.ended.found again) c.requires.can.fits in
    rw c.fire_waiter.ensures.fired (subst (λ (b : List ℕ). length b ≤ c.args.out.now.room) (sym (answer c.args.due.number c.args.now c.self.inside.under_way.waiters.items v there)) fits)

pub returns-in-Again : goal.returns-in-Again
returns-in-Again g c =
    let v = c.requires.ended.item in
    let there : item_at c.args.due.number c.self.inside.under_way.waiters.items ≡ Some v = subst (λ (s : State). item_at c.args.due.number s.waiters ≡ Some v) (sym c.self.view_is) c.requires.ended.found in
    let w = c.args.self.now in
    let again : Again ≡ fire_of_state c.args.now v.state = rw there at c.in-Again.ensures.exact in
    let put : c.put_answer.new.out ≡ holding c.args.out.now (answer_at c.args.due.number (changed_at c.args.due.number (fired_waiter c.args.now) c.self.inside.under_way.waiters.items)) = rw c.fire_waiter.ensures.fired at c.put_answer.ensures in
    let bytes : c.put_answer.new.out ≡ holding c.args.out.now (answer_in_state v.state) = put ∙ ap (λ (b : List ℕ). holding c.args.out.now b) (answer c.args.due.number c.args.now c.self.inside.under_way.waiters.items v there) in
    let state : c.advance.new.self ≡ (redelivers w c.args.now c.args.due.number v (answer_in_state v.state)).state = rw (← c.self.view_is) (rw c.fire_waiter.ensures.fired at c.advance.ensures) in
    rw (again-step w c.args.now c.args.due.number v c.requires.ended.found again) ((λ i. record { send = Some (c.requires.ended.holds.1 i); deed = Redelivered c.args.due.number }), bytes, state)

pub returns-in-GiveUp : goal.returns-in-GiveUp
returns-in-GiveUp g c =
    let t = c.self.inside.under_way.waiters in
    let v = c.requires.ended.item in
    let there : item_at c.args.due.number c.self.inside.under_way.waiters.items ≡ Some v = subst (λ (s : State). item_at c.args.due.number s.waiters ≡ Some v) (sym c.self.view_is) c.requires.ended.found in
    let w = c.args.self.now in
    let due = c.requires.ended.holds.0 in
    let rising : IsRising 0 t.items = subst (λ (s : State). IsRising 0 s.waiters) (sym c.self.view_is) c.requires.can.ready.can.waiters in
    let over : GiveUp ≡ fire_of_state c.args.now v.state = rw there at c.in-GiveUp.ensures.exact in
    let same : changed_at c.args.due.number (fired_waiter c.args.now) t.items ≡ t.items = changed-same c.args.due.number (fired_waiter c.args.now) 0 t.items v rising there (fired-same c.args.now v over) in
    let stays : c.fire_waiter.new.self ≡ c.self.inside.under_way = c.fire_waiter.ensures.fired ∙ (λ i. record c.self.inside.under_way { waiters = record t { items = same i } }) in
    let does : DoesSo (abandons w c.args.now c.args.due.number) c.abandon.result c.args.out.now c.abandon.new.out c.abandon.new.self = rw (← c.self.view_is) (rw stays at c.abandon.ensures) in
    subst (λ (s : Step). DoesSo s c.abandon.result c.args.out.now c.abandon.new.out c.abandon.new.self) (sym (over-step w c.args.now c.args.due.number v c.requires.ended.found due over)) does
