use Rattle.std.proofs.Common.{◌≤◌, Bool, true, List, ◌∷◌, IfOk, length, subst, sym, arith}
use Rattle.coap_model.specs.Deeds.{report_of}
use Rattle.coap_model.specs.Setting.{Setting}
use Rattle.coap_limits.specs.Limits.{AreLimits}
use Rattle.coap_model.specs.Carries.{Carries}
use Rattle.coap_model.specs.History.{Observation}
use Rattle.coap_model.specs.Promised.{Promised}
use Rattle.coap_model.specs.Shares.{LeavesRoom}
use Rattle.coap_model.specs.State.{State}
use Rattle.coap_model.specs.Word.{KeepsItsWord}
use Rattle.coap_model.proofs.RoomForOthers.{leaves-room}
use Rattle.coap_model.proofs.PromisesHold.{promises}
use Rattle.coap_model.proofs.Word.{keeps-word}
use Rattle.coap_model.specs.Step.{step_of}
use Rattle.coap_core.specs.Events.{seen}
use Rattle.coap_core.specs.Done.{in_short, observation_told}
use Rattle.coap_core.specs.StepDone.{IsStepDone}
use Rattle.coap_core.proofs.Carried.{IsLeft, can_go_on, holds-on, is-left, is-short, short-err, short-exact, short-is, short-ok}
use Rattle.coap_core.proofs.proxy.Core.step_told.Given.{Over}
use Rattle.coap_core.proofs.proxy.Core.step_told.Goals.{After-step-done}
use Rattle.coap_core.proofs.proxy.Core.step_told.Goals as goal

pub step-done-requires-clause-can : goal.step-done-requires-clause-can
step-done-requires-clause-can g c =
    let i = c.self.invariant in
    let can = can_go_on i.1.0 c.self.inside.state i.1.1 (rw (← c.self.view_is) at c.requires.events) in
    let room = rw (← c.self.view_is) at c.requires.room in
    let fits = c.datagrams_fit.ensures.fits c.self.inside.state i.1.0 c.args.now c.args.draw true (seen c.args.event) i.1.1 i.0 c.laws.ensures in
    record {
      ready = record { can = can; onward = rw (← c.self.view_is) at c.requires.onward; moment = c.requires.moment };
      room = room;
      fits = omega (arith, room, fits);
    }

-- what the step leaves
leaves : (g : Over) (c : After-step-done g) → IsLeft c.self.inside.state c.step-done.new.self
leaves g c =
    let i = c.self.invariant in
    is-left c.self.inside.state c.args.now c.args.draw (seen c.args.event) i.1.0 i.1.1 i.1.2 c.requires.moment c.requires.draw (rw (← c.self.view_is) at c.requires.onward) c.laws.ensures c.step-done.result c.args.out.now c.step-done.new.out c.step-done.new.self c.step-done.ensures.exact c.step-done.ensures.err

-- so the limits hold after it
promised : (g : Over) (c : After-step-done g) → Promised (leaves g c).history c.step-done.new.self
promised g c = let left = leaves g c in c.what_is_carried_is_promised.ensures.promised left.history c.step-done.new.self left.carries

-- what holds of whatever is carried holds with the entry of the step in front
on : (g : Over) (c : After-step-done g) (P : List Observation → State → Type 0) → ((history : List Observation) (w : State) → Carries history w → P history w)
    → IfOk c.step-done.result (λ did. (history : List Observation) → Carries history c.self.inside.state → P (observation_told c.args.now c.args.draw (seen c.args.event) (report_of did) c.step-done.new.out.bytes ∷ history) c.step-done.new.self)
on g c P holds =
    holds-on P holds c.self.inside.state c.args.now c.args.draw (seen c.args.event) (rw (← c.self.view_is) at c.requires.onward) c.laws.ensures c.step-done.result c.args.out.now c.step-done.new.out c.step-done.new.self c.step-done.ensures.exact

pub invariant_of-self : goal.invariant_of-self
invariant_of-self g c =
    let i = c.self.invariant in
    let left = leaves g (goal.at.invariant_of-self g c).After-step-done in
    (subst (λ (s : Setting). AreLimits s.limits) (sym left.setting) i.0, (left.history, left.carries, left.in_range), c.first_due-self-inside.ensures)

-- what is promised of the step
done : (g : Over) (c : After-step-done g)
    → IsStepDone c.args.now c.args.draw (seen c.args.event) (in_short c.step-done.result) c.self.inside.state c.step-done.new.self c.args.out.now c.step-done.new.out
done g c =
    let i = c.self.invariant in
    let w = c.self.inside.state in
    let r = c.step-done.result in
    let did = c.step-done.ensures in
    let left = leaves g c in
    let kept = promised g c in
    let short : (grown : Bool) → length (step_of w c.args.now c.args.draw grown (seen c.args.event)).bytes ≤ w.setting.limits.datagram = λ grown. c.datagrams_fit.ensures.fits w i.1.0 c.args.now c.args.draw grown (seen c.args.event) i.1.1 i.0 c.laws.ensures in
    let all = λ (P : List Observation → State → Type 0) (holds : (history : List Observation) (v : State) → Carries history v → P history v). short-ok r (λ report. (history : List Observation) → Carries history w → P (observation_told c.args.now c.args.draw (seen c.args.event) report c.step-done.new.out.bytes ∷ history) c.step-done.new.self) (on g c P holds) in
    record {
      exact = short-exact w c.args.now c.args.draw (seen c.args.event) c.laws.ensures r c.args.out.now c.step-done.new.out c.step-done.new.self did.exact;
      short = rw left.setting (is-short r (λ grown. step_of w c.args.now c.args.draw grown (seen c.args.event)) c.args.out.now c.step-done.new.out c.step-done.new.self w.setting.limits.datagram short did.exact did.none);
      carries = all Carries (λ history v carries. carries);
      promised = all Promised promises;
      word = all KeepsItsWord keeps-word;
      shares = all LeavesRoom leaves-room;
      setting = left.setting;
      limits = record {
        exchanges = kept.exchanges;
        waiters = kept.waiters;
        con_records = kept.con_records;
        non_records = kept.non_records;
        client_exchanges = kept.client_exchanges;
        client_waiters = kept.client_waiters;
        client_con_records = kept.client_con_records;
        client_non_records = kept.client_non_records;
        entries = kept.entries;
        cached_bytes = kept.cached_bytes;
        held = kept.bytes;
      };
      err = short-err r _ did.err;
      none = short-err r _ did.none;
      memory = short-err r _ did.memory;
      ticks = λ is. short-err r _ (did.ticks is);
      unread = λ is. short-is r (did.unread is);
      empty = λ is. short-is r (did.empty is);
    }

pub returns-clause-done : goal.returns-clause-done
returns-clause-done g c = rw (← c.self.view_is) (done g (goal.at.returns-clause-done g c).After-step-done)
