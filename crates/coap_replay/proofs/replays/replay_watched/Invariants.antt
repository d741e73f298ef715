use Rattle.std.proofs.Common.{◌≡◌, ◌<◌, ◌≤◌, ◌^◌, false}
use Rattle.coap_replay.specs.Buffers.{HaveRoom}
use Rattle.coap_replay.specs.Watched.{IsToldRun}
use Rattle.coap_replay.proofs.Replaying.{IsAt}
use Rattle.coap_replay.proofs.replays.replay_watched.Given as goal

abbrev pub invariant-loop-read : goal.invariant-loop-read
invariant-loop-read g l = record {
  at : IsAt l.fn.core l.core (g.R.Read.remaining l.fn.input.reader) (g.R.Read.remaining l.input.reader) (g.W.Write.contents l.fn.output.writer) (g.W.Write.contents l.output.writer) l.read l.count;
  told : IsToldRun g.V.Watch.sees l.fn.core l.fn.watcher l.core l.watcher;
  few : l.count < l.fn.budget.turns;
  lines : l.read ≤ 2 ^ 62;
  room : HaveRoom l.core.setting.limits.datagram l.buffers;
  reader : l.fn.input.failed ≡ false → l.input.failed ≡ false;
  writer : l.fn.output.failed ≡ false → l.output.failed ≡ false;
}
