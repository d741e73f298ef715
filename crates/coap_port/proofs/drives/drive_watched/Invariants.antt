use Rattle.std.proofs.Common.{◌≡◌, ◌≤◌, ◌+◌}
use Rattle.coap_port.proofs.Driving.{IsAtWatched}
use Rattle.coap_port.specs.Stats.{AreWithin}
use Rattle.coap_port.proofs.drives.drive_watched.Given as goal

abbrev pub invariant-loop-done : goal.invariant-loop-done
invariant-loop-done g l = record {
  at : IsAtWatched (g.P.Port.gives (l.fn.core.setting.limits.datagram + 1)) g.P.Port.takes g.W.Watch.sees g.P.Port.clock g.P.Port.failures (g.P.Port.clock l.fn.port) l.fn.core l.fn.port l.fn.watcher l.core l.port l.watcher l.drive.stats l.drive.came;
  counted : l.drive.stats.turns ≡ l.done;
  within : AreWithin l.drive.stats;
  onward : l.core.last ≤ g.P.Port.clock l.port;
  events : l.core.events ≤ l.fn.core.events + l.done;
  input : l.drive.input.room ≡ l.fn.core.setting.limits.datagram + 1;
  room : l.core.setting.limits.datagram ≤ l.drive.output.room;
  failures : g.P.Port.failures l.port ≡ g.P.Port.failures l.fn.port;
}
