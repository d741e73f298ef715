use Rattle.std.proofs.Common.{◌≡◌, ◌<◌, ◌≤◌, ◌==◌, ◌^◌, ◌-◌}
use Rattle.std.specs.Io.KnownBytes.{Keeps}
use Rattle.coap_lines.proofs.writing.output.put_some.Given as goal

-- nothing was written, and each try so far was interrupted
abbrev pub invariant-loop-tries : goal.invariant-loop-tries
invariant-loop-tries g l = Keeps (g.W.Write.contents l.fn.writer.inner) (g.W.Write.contents l.writer.inner) × (l.tries ≤ l.writer.failing.interrupted) × (0 < l.tries → (l.writer.failing.interrupted ≤ 2 ^ 64 - 1) × (l.writer.failing.last ≡ (l.writer.failing.interrupted == 2 ^ 64 - 1)))
