use Rattle.std.proofs.Common.{◌++◌, codes}
use Rattle.coap_stats.proofs.Adding.{last, more}
use Rattle.coap_stats.specs.Labels.{All}
use Rattle.coap_stats.specs.Line.{opening_words}
use Rattle.coap_stats.specs.Metrics.{evicted, evicted_fresh, head_text, metric_text, opened, samples_text}
use Rattle.coap_stats.proofs.metrics.put_cache.Goals as goal

pub returns : goal.returns
returns c =
    let two = more c.args.out.now.items c.put_metric.new.out.items c.put_metric-2.new.out.items (metric_text c.args.listen.now evicted c.args.statistics.now.evictions.entries) (metric_text c.args.listen.now evicted_fresh c.args.statistics.now.evictions.fresh) c.in_ok-put_metric.ensures c.in_ok-put_metric-2.ensures in
    let three = more c.args.out.now.items c.put_metric-2.new.out.items c.put_head.new.out.items (metric_text c.args.listen.now evicted c.args.statistics.now.evictions.entries ++ metric_text c.args.listen.now evicted_fresh c.args.statistics.now.evictions.fresh) (head_text opened) two c.in_ok-put_head.ensures in
    last c.put_samples.result c.args.out.now.items c.put_head.new.out.items c.put_samples.new.out.items
    (metric_text c.args.listen.now evicted c.args.statistics.now.evictions.entries ++ metric_text c.args.listen.now evicted_fresh c.args.statistics.now.evictions.fresh ++ head_text opened)
    (samples_text c.args.listen.now opened.name All (codes "stored") (opening_words c.args.statistics.now.openings)) three (rw c.opening_words.ensures at c.put_samples.ensures)
