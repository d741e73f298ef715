use Rattle.std.proofs.Common.{◌≡◌, ◌≤◌, ◌∙◌, Some, ap, length, refl, rules, sym, subst}
use Rattle.std.proofs.lemmas.Option.{same_Some}
use Rattle.coap_pending.specs.Table.{item_at}
use Rattle.coap_store.specs.declared.key.CacheKey.{CacheKey}
use Rattle.coap_model.specs.State.{Step}
use Rattle.coap_core.specs.Done.{DoesSo}
use Rattle.coap_core.specs.Dues.{IsExchangeDue}
use Rattle.coap_core.proofs.Ticking.{is-open, has-ended, queued-step, sent-step}
use Rattle.coap_core.proofs.state.State.on_exchange.Given.{Over}
use Rattle.coap_core.proofs.state.State.on_exchange.Goals.{In-Some}
use Rattle.coap_core.proofs.state.State.on_exchange.Goals as goal

-- the exchange that is found
found : (g : Over) (c : In-Some g) → item_at c.args.number c.args.self.now.exchanges ≡ Some c.in-Some.exchange.now
found g c = rw (← c.self.view_is) (sym c.in-Some.ensures.exact)

-- it is due
due : (g : Over) (c : In-Some g) → IsExchangeDue c.args.self.now c.args.timing.now c.in-Some.exchange.now
due g c = subst (IsExchangeDue c.args.self.now c.args.timing.now) (same_Some _ _ (sym c.requires.due.found ∙ found g c)) c.requires.due.holds

pub give_up-requires-clause-unanswered : goal.give_up-requires-clause-unanswered
give_up-requires-clause-unanswered g c =
    let k = (goal.at.give_up-requires-clause-unanswered g c).In-Some in
    rw (found g k) (is-open c.args.self.now c.args.timing.now c.in-Some.exchange.now (due g k))

pub send-requires-clause-can : goal.send-requires-clause-can
send-requires-clause-can g c =
    let k = (goal.at.send-requires-clause-can g c).In-Some in
    record {
      ready = c.requires.can.ready;
      room = c.requires.can.room;
      fits = subst (λ (s : Step). length s.bytes ≤ c.args.out.now.room)
          (queued-step c.args.self.now c.args.timing c.args.number c.in-Some.exchange.now (found g k) (sym c.if-is_late.ensures) c.in-Queued.is) c.requires.can.fits;
    }

pub on_request_timeout-requires-clause-ended : goal.on_request_timeout-requires-clause-ended
on_request_timeout-requires-clause-ended g c =
    let k = (goal.at.on_request_timeout-requires-clause-ended g c).In-Some in
    record {
      item = c.in-Some.exchange.now;
      found = found g k;
      holds = (has-ended c.args.self.now c.args.timing.now c.in-Some.exchange.now (due g k) c.in-Sent.is (sym c.if-is_late.ensures), ap (λ (k : CacheKey). k.target.at) c.key.ensures);
    }

pub send-requires-clause-queued : goal.send-requires-clause-queued
send-requires-clause-queued g c =
    let k = (goal.at.send-requires-clause-queued g c).In-Some in
    record {
      item = c.in-Some.exchange.now;
      found = found g k;
      holds = (rw c.in-Queued.is refl, ap (λ (k : CacheKey). k.target.at) c.key.ensures);
    }

pub on_request_timeout-requires-clause-can : goal.on_request_timeout-requires-clause-can
on_request_timeout-requires-clause-can g c =
    let k = (goal.at.on_request_timeout-requires-clause-can g c).In-Some in
    record {
      ready = c.requires.can.ready;
      room = c.requires.can.room;
      fits = subst (λ (s : Step). length s.bytes ≤ c.args.out.now.room)
          (sent-step c.args.self.now c.args.timing c.args.number c.in-Some.exchange.now (found g k) (sym c.if-is_late.ensures) c.in-Sent.is) c.requires.can.fits;
    }

pub returns-in-Queued : goal.returns-in-Queued
returns-in-Queued g c =
    let k = (goal.at.returns-in-Queued g c).In-Some in
    subst (λ (s : Step). DoesSo s c.send.result c.args.out.now c.send.new.out c.send.new.self)
    (sym (queued-step c.args.self.now c.args.timing c.args.number c.in-Some.exchange.now (found g k) (sym c.if-is_late.ensures) c.in-Queued.is)) c.send.ensures

pub returns-in-Sent : goal.returns-in-Sent
returns-in-Sent g c =
    let k = (goal.at.returns-in-Sent g c).In-Some in
    subst (λ (s : Step). DoesSo s c.on_request_timeout.result c.args.out.now c.on_request_timeout.new.out c.on_request_timeout.new.self)
    (sym (sent-step c.args.self.now c.args.timing c.args.number c.in-Some.exchange.now (found g k) (sym c.if-is_late.ensures) c.in-Sent.is)) c.on_request_timeout.ensures

pub returns-then-is_late : goal.returns-then-is_late
returns-then-is_late g c = search rules
