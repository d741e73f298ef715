use Rattle.std.proofs.Common.{◌≡◌, ◌++◌}
use Rattle.std.specs.Iterator.Adapters.{zip_first, zip_second}
use Rattle.std.specs.Slice.Iter.{iter_rest}
use Rattle.coap_stats.specs.Labels.{part_seen}
use Rattle.coap_stats.specs.Metrics.{samples_text}
use Rattle.coap_stats.specs.Series.{bucket_words}
use Rattle.coap_stats.proofs.Bucketing.{words_of}
use Rattle.coap_stats.proofs.series.put_buckets.Given as goal

-- what was added, and the lines of the buckets that are left
abbrev pub invariant-loop-key : goal.invariant-loop-key
invariant-loop-key l =
    l.out.items
    ++ samples_text l.fn.buckets.listen.now l.fn.buckets.metric.name.now (part_seen l.fn.buckets.whose) l.fn.buckets.label.now (words_of (iter_rest (zip_first l.key-iterator)) (iter_rest (zip_second l.key-iterator)))
    ≡ l.initial.out.items
    ++ samples_text l.fn.buckets.listen.now l.fn.buckets.metric.name.now (part_seen l.fn.buckets.whose) l.fn.buckets.label.now (bucket_words l.fn.times)
