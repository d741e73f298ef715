use Rattle.std.proofs.Common.{◌≡◌, drop}
use Rattle.coap_target.proofs.segment.skip.Given as goal

abbrev pub invariant-loop-index : goal.invariant-loop-index
invariant-loop-index g l = g.P.Segments.left l.path ≡ drop l.index (g.P.Segments.left l.fn.path)
