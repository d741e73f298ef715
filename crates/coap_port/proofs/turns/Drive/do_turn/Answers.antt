use Rattle.std.proofs.Common.{◌≡◌, ◌∙◌, ap, ap₂, subst, arith}
use Rattle.coap_core.specs.Events.{seen}
use Rattle.coap_model.specs.Events.{IsEvent, event_given}
use Rattle.coap_model.specs.Ticks.{next_due}
use Rattle.coap_core.specs.Told.{Told}
use Rattle.coap_port.specs.Driven.{is_arrival, wait_for}
use Rattle.coap_port.specs.Given.{given_by}
use Rattle.coap_port.proofs.Turning.{arrival-is, did-nothing, did-step}
use Rattle.coap_port.proofs.turns.Drive.do_turn.Goals.{in-Ok, in-Err}
use Rattle.coap_port.proofs.turns.Drive.do_turn.Goals as goal

pub returns-clause-done : goal.returns-clause-done
returns-clause-done g c =
    let turn = c.in_ok-turn.turn in
    let bytes = c.next.new.into.bytes in
    let onward = c.in_ok-turn.ensures.onward in
    let asked : c.wait_for-wait.result ≡ wait_for c.args.self.now.came (g.P.Port.clock c.args.port.now) (next_due c.args.core.now) =
    c.wait_for-wait.ensures ∙ ap₂ (wait_for c.args.self.now.came) c.last.ensures c.next_due.ensures.exact in
    let begun = c.begun-seen.ensures in
    let shown = c.bytes.ensures.bytes in
    let same : seen c.begun-seen.result.event ≡ event_given turn.from bytes = begun.event ∙ ap (event_given turn.from) shown in
    let event : IsEvent (event_given turn.from bytes) = subst (λ b. IsEvent (event_given turn.from b)) shown begun.bytes in
    let arrives : c.is_some-self.result ≡ is_arrival (event_given turn.from bytes) = c.is_some-self.ensures ∙ arrival-is turn.from bytes in
    elim c.match-step_told.branch [
      | in-Ok w ↦
          rw (w.port-is, w.self-is, w.watcher-is)
          (did-step (g.P.Port.gives c.args.self.now.input.room) g.P.Port.takes g.W.Watch.sees g.P.Port.clock g.P.Port.failures c.args.self.now.came c.args.core.now c.args.port.now c.args.watcher.now w.see.new.self c.args.self.now.stats
          c.wait_for-wait.result (given_by turn bytes) c.next.new.self c.is_some-self.result asked c.in_ok-turn.ensures.gives arrives onward.held
          c.step_told.new.self w.hand_over-went.new.port w.count.new.stats (seen c.begun-seen.result.event) w.in-Ok.did c.args.self.now.output c.step_told.new.out w.hand_over-went.result
          same event w.in-Ok.ensures.exact w.in-Ok.ensures.done.carries
          (rw w.bytes-sent.ensures.bytes at w.hand_over-went.ensures.takes)
          w.hand_over-went.ensures.clock (w.hand_over-went.ensures.failures ∙ c.in_ok-turn.ensures.works)
          (rw w.is_some.ensures at w.count.ensures.exact)
          (rw (w.bytes-sent.ensures.bytes, begun.now, begun.draw) at (subst (λ (u : Told). g.W.Watch.sees c.args.watcher.now u w.see.new.self) (w.done.ensures c.step_told.new.self) (c.foresee.ensures.foreseen _ _ w.see.ensures))))
      | in-Err w ↦
          rw (w.port-is, w.self-is, w.watcher-is)
          (did-nothing (g.P.Port.gives c.args.self.now.input.room) g.P.Port.takes g.W.Watch.sees g.P.Port.clock g.P.Port.failures c.args.self.now.came c.args.core.now c.args.port.now c.args.watcher.now w.see-in-Err.new.self c.args.self.now.stats
          c.wait_for-wait.result (given_by turn bytes) c.next.new.self c.is_some-self.result asked c.in_ok-turn.ensures.gives arrives onward.held
          c.step_told.new.self w.count-in-Err.new.stats (seen c.begun-seen.result.event) same w.in-Err.ensures.done.err w.in-Err.ensures.done.memory
          (omega (arith, c.requires.onward, onward.onward)) c.in_ok-turn.ensures.works w.count-in-Err.ensures.exact
          (rw (← begun.event) at (subst (λ (u : Told). g.W.Watch.sees c.args.watcher.now u w.see-in-Err.new.self) (begun.lost c.step_told.new.self) (c.foresee.ensures.foreseen _ _ w.see-in-Err.ensures))))
    ]
