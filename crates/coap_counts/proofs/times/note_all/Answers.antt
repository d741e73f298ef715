use Rattle.std.proofs.Common.{arith}
use Rattle.coap_counts.specs.Times.{with_time}
use Rattle.coap_counts.proofs.Stepping.{stepped}
use Rattle.coap_counts.proofs.times.note_all.Goals as goal

pub loop-bucket-preserved : goal.loop-bucket-preserved
loop-bucket-preserved c = stepped (with_time c.args.took) c.args.buckets.now c.loop-bucket.buckets c.loop-bucket.bucket-index _ _ c.loop-bucket-test.true (omega (arith, c.loop-bucket-test.true, c.loop-bucket.auto.buckets)) c.loop-bucket.invariant c.note.ensures
