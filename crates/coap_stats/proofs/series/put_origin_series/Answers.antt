use Rattle.std.proofs.Common.{◌++◌, ap, ◌∙◌}
use Rattle.std.specs.List.{flat_map}
use Rattle.coap_stats.proofs.Adding.{last}
use Rattle.coap_stats.specs.Metrics.{head_text}
use Rattle.coap_stats.specs.Series.{origin_metric, origin_parts, origin_text}
use Rattle.coap_stats.proofs.series.put_origin_series.Goals as goal

pub returns : goal.returns
returns c =
    let t = c.args.origins.now in
    last c.put_each_origin.result c.args.out.now.items c.put_head.new.out.items c.put_each_origin.new.out.items (head_text (origin_metric c.args.series))
    (flat_map (origin_text c.args.at.listen.now c.args.at.now c.args.series) (origin_parts t.places t.others))
    (c.in_ok-put_head.ensures ∙ ap (λ m. c.args.out.now.items ++ head_text m) c.metric.ensures) c.put_each_origin.ensures
