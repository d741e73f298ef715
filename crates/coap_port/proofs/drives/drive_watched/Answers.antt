use Rattle.std.proofs.Common.{◌≡◌, ◌∙◌, ◌+◌, ap, refl, arith}
use Rattle.coap_port.proofs.Driving.{watched-more, watched-now, watched-start}
use Rattle.coap_port.specs.declared.stats.Stats.{Stats}
use Rattle.coap_port.proofs.drives.drive_watched.Goals as goal

pub loop-done-init : goal.loop-done-init
loop-done-init g c = record {
  at = rw (c.in-Ok.ensures.stats, c.in-Ok.ensures.came) (watched-start (g.P.Port.gives (c.args.core.now.setting.limits.datagram + 1)) g.P.Port.takes g.W.Watch.sees g.P.Port.clock g.P.Port.failures c.args.core.now c.args.port.now c.args.watcher.now);
  counted = rw c.in-Ok.ensures.stats refl;
  within = rw c.in-Ok.ensures.stats (record { sent = omega arith; send_faults = omega arith; lost = omega arith });
  onward = c.requires.onward;
  events = omega arith;
  input = rw (c.in-Ok.ensures.input, c.datagram.ensures.exact) refl;
  room = rw (c.in-Ok.ensures.output, c.datagram.ensures.exact) (omega arith);
  failures = refl;
}

pub loop-done-preserved : goal.loop-done-preserved
loop-done-preserved g c =
    let i = c.loop-done.invariant in
    let watched = rw i.input at c.in-Ok-do_turn.ensures.done in
    let did = watched.did in
    let more : c.do_turn.new.self.stats.turns ≡ c.loop-done.drive.stats.turns + 1 = ap (λ (s : Stats). s.turns) did.counted in
    record {
      at = watched-more (g.P.Port.gives (c.args.core.now.setting.limits.datagram + 1)) g.P.Port.takes g.W.Watch.sees g.P.Port.clock g.P.Port.failures _ _ _ _ _ _ _ _ _ i.at _ _ _ _ _ watched;
      counted = omega (arith, more, i.counted);
      within = c.do_turn.ensures.within;
      onward = did.onward;
      events = omega (arith, did.events, i.events);
      input = c.do_turn.ensures.input ∙ i.input;
      room = rw (c.do_turn.ensures.setting, c.do_turn.ensures.room) i.room;
      failures = did.still ∙ i.failures;
    }

pub returns-in-Err-clause-ends : goal.returns-in-Err-clause-ends
returns-in-Err-clause-ends g c =
    let i = c.loop-done.invariant in
    rw (c.in-Err.ensures.nothing, c.in-Err.ensures.untold, c.in-Err.ensures.uncounted) (
      (c.loop-done.port, watched-now (g.P.Port.gives (c.args.core.now.setting.limits.datagram + 1)) g.P.Port.takes g.W.Watch.sees g.P.Port.clock g.P.Port.failures _ _ _ _ _ _ _ _ _ i.at),
      c.in-Err.ensures.fails ∙ ap (λ n. n + 1) i.failures,
    )

pub returns-clause-ends : goal.returns-clause-ends
returns-clause-ends g c =
    let i = c.loop-done.invariant in (
      watched-now (g.P.Port.gives (c.args.core.now.setting.limits.datagram + 1)) g.P.Port.takes g.W.Watch.sees g.P.Port.clock g.P.Port.failures _ _ _ _ _ _ _ _ _ i.at,
      omega (arith, i.counted, c.loop-done-test.false, c.loop-done.auto.done-end),
      i.failures,
    )
