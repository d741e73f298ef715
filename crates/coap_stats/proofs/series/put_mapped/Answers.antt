use Rattle.std.proofs.Common.{◌++◌, ap, ◌∙◌}
use Rattle.coap_stats.proofs.Adding.{loop-more}
use Rattle.coap_stats.specs.Series.{by_prefix, way_text}
use Rattle.coap_stats.proofs.series.put_mapped.Goals as goal

pub loop-map-preserved : goal.loop-map-preserved
loop-map-preserved c =
    loop-more (way_text c.args.listen.now) by_prefix c.args.maps.now c.loop-map.map-index c.map-item.result c.args.out.now.items c.loop-map.out.items c.put_way.new.out.items c.loop-map-test.true c.loop-map.invariant
    (c.in_ok-put_way.ensures ∙ ap (λ m. c.loop-map.out.items ++ way_text c.args.listen.now (by_prefix m)) c.map-item.is)
