use Rattle.std.proofs.Common.{length}
use Rattle.coap_target.proofs.segment.size_of.Given as goal

abbrev pub decreases-segments : goal.decreases-segments
decreases-segments g l = length (g.P.Segments.left l.segments)
