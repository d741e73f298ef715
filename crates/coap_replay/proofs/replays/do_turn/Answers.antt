use Rattle.std.proofs.Common.{◌∙◌, ap, subst, sym}
use Rattle.coap_core.specs.Events.{seen}
use Rattle.coap_lines.specs.Turns.{turn_seen}
use Rattle.coap_model.specs.Events.{event_given}
use Rattle.coap_core.specs.Told.{Told}
use Rattle.coap_core.proofs.Undoing.{err-holds}
use Rattle.coap_replay.proofs.Telling.{failed-write, lost-told, step-told}
use Rattle.coap_replay.proofs.replays.do_turn.Goals as goal

pub returns-then-is_err-clause-told : goal.returns-then-is_err-clause-told
returns-then-is_err-clause-told g c =
    let begun = c.begun-seen.ensures in
    step-told g.V.Watch.sees c.args.core.now c.step_told.new.self (turn_seen c.args.line.turn c.args.buffers.now.input.bytes) (seen c.begun-seen.result.event) c.in-Ok.did c.args.buffers.now.output c.step_told.new.out c.args.watcher.now c.see-2.new.self
    (begun.event ∙ ap (event_given c.args.line.turn.from) c.bytes.ensures.bytes) c.in-Ok.ensures.exact
    (rw (c.bytes-2.ensures.bytes, begun.now, begun.draw) at (subst (λ (u : Told). g.V.Watch.sees c.args.watcher.now u c.see-2.new.self) (c.done.ensures c.step_told.new.self) (c.foresee.ensures.foreseen _ _ c.see-2.ensures)))

pub returns-clause-told : goal.returns-clause-told
returns-clause-told g c =
    let begun = c.begun-seen.ensures in
    step-told g.V.Watch.sees c.args.core.now c.step_told.new.self (turn_seen c.args.line.turn c.args.buffers.now.input.bytes) (seen c.begun-seen.result.event) c.in-Ok.did c.args.buffers.now.output c.step_told.new.out c.args.watcher.now c.see-2.new.self
    (begun.event ∙ ap (event_given c.args.line.turn.from) c.bytes.ensures.bytes) c.in-Ok.ensures.exact
    (rw (c.bytes-2.ensures.bytes, begun.now, begun.draw) at (subst (λ (u : Told). g.V.Watch.sees c.args.watcher.now u c.see-2.new.self) (c.done.ensures c.step_told.new.self) (c.foresee.ensures.foreseen _ _ c.see-2.ensures)))

pub returns-then-is_err-clause-does : goal.returns-then-is_err-clause-does
returns-then-is_err-clause-does g c =
    failed-write c.args.core.now c.step_told.new.self (turn_seen c.args.line.turn c.args.buffers.now.input.bytes) (seen c.begun-seen.result.event) c.in-Ok.did c.args.buffers.now.output c.step_told.new.out _ _ c.args.line.number c.line_for.new.text.items
    (c.begun-seen.ensures.event ∙ ap (event_given c.args.line.turn.from) c.bytes.ensures.bytes) c.in-Ok.ensures.exact c.line_for.ensures.line
    (rw c.deref.ensures.value at (err-holds c.write_all.result (sym c.is_err.ensures.value ∙ c.if-is_err.true) c.write_all.ensures.front))

pub returns-in_default-clause-told : goal.returns-in_default-clause-told
returns-in_default-clause-told g c =
    let begun = c.begun-seen.ensures in
    lost-told g.V.Watch.sees c.args.core.now c.step_told.new.self (turn_seen c.args.line.turn c.args.buffers.now.input.bytes) _ c.args.line.number c.args.watcher.now c.see.new.self
    (ap (event_given c.args.line.turn.from) c.bytes.ensures.bytes) c.in_default.ensures.done.err
    (subst (λ (u : Told). g.V.Watch.sees c.args.watcher.now u c.see.new.self) (begun.lost c.step_told.new.self) (c.foresee.ensures.foreseen _ _ c.see.ensures))
