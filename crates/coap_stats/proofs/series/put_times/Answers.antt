use Rattle.std.proofs.Common.{◌++◌, codes}
use Rattle.std.proofs.lemmas.Result.{on_ok_weaker}
use Rattle.coap_stats.proofs.Adding.{four}
use Rattle.coap_stats.specs.Labels.{part_seen}
use Rattle.coap_stats.specs.Metrics.{number_text, sample_text, samples_text}
use Rattle.coap_stats.specs.Series.{bucket_words, origin_times, sum_text}
use Rattle.coap_stats.proofs.series.put_times.Goals as goal

pub returns : goal.returns
returns c =
    let listen = c.args.family.listen.now in
    let part = part_seen c.args.family.whose in
    let n = c.args.times.now in
    on_ok_weaker c.put_number_of.result
    (λ last.
    four c.args.out.now.items c.put_buckets.new.out.items c.put_sample.new.out.items c.put_sum.new.out.items c.put_number_of.new.out.items
    (samples_text listen (origin_times.name ++ codes "_bucket") part (codes "le") (bucket_words n)) (sample_text listen (origin_times.name ++ codes "_bucket") part (codes "le") (codes "+Inf", n.count))
    (sum_text listen (origin_times.name ++ codes "_sum") part n.sum) (number_text listen (origin_times.name ++ codes "_count") part n.count)
    (rw c.named-buckets.ensures at c.in_ok-put_buckets.ensures) (rw c.named-buckets.ensures at c.in_ok-put_sample.ensures) (rw c.named.ensures at c.in_ok-put_sum.ensures) last)
    (rw c.named-count.ensures at c.put_number_of.ensures)
