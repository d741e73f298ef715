use Rattle.coap_target.proofs.Dropping.{drop-next}
use Rattle.coap_target.proofs.segment.skip.Goals as goal

pub loop-index-preserved : goal.loop-index-preserved
loop-index-preserved g c = drop-next c.loop-index.index _ _ _ _ c.loop-index.invariant c.next_segment-passed.ensures
