use Rattle.std.proofs.Common.{◌≡◌}
use Rattle.coap_target.specs.Routes.{begins}
use Rattle.coap_target.proofs.segment.begins.Given as goal

abbrev pub invariant-loop-segment : goal.invariant-loop-segment
invariant-loop-segment g l = begins l.prefix (g.P.Segments.left l.fn.path) ≡ begins l.segment-iterator (g.P.Segments.left l.path)
