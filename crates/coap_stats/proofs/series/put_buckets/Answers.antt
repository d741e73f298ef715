use Rattle.std.proofs.Common.{◌++◌}
use Rattle.std.proofs.lemmas.Slice.Zip.{either_empty_from_Zip}
use Rattle.std.specs.Iterator.Adapters.{zip_first, zip_second}
use Rattle.std.specs.Slice.Iter.{iter_rest}
use Rattle.coap_stats.proofs.Bucketing.{buckets-end}
use Rattle.coap_stats.specs.Labels.{part_seen}
use Rattle.coap_stats.specs.Metrics.{sample_text, samples_text}
use Rattle.coap_stats.specs.Series.{bucket_words}
use Rattle.coap_stats.proofs.series.put_buckets.Goals as goal

pub returns : goal.returns
returns c =
    let f = c.args.buckets in
    buckets-end (sample_text f.listen.now f.metric.name.now (part_seen f.whose) f.label.now)
    (iter_rest (zip_first c.loop-key.key-iterator)) (iter_rest (zip_second c.loop-key.key-iterator))
    (c.args.out.now.items ++ samples_text f.listen.now f.metric.name.now (part_seen f.whose) f.label.now (bucket_words c.args.times.now))
    c.loop-key.out.items
    (either_empty_from_Zip c.loop-key.key-iterator c.next.new.self c.next.result c.in-None.is c.next.ensures.steps) c.loop-key.invariant
