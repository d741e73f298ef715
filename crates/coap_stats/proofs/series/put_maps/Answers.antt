use Rattle.std.proofs.Common.{map}
use Rattle.std.proofs.lemmas.Result.{on_ok_weaker}
use Rattle.coap_stats.proofs.Adding.{head-of-two}
use Rattle.coap_stats.specs.Metrics.{head_text}
use Rattle.coap_stats.specs.Series.{by_prefix, map_requests, other_ways, way_text}
use Rattle.coap_stats.proofs.series.put_maps.Goals as goal

pub returns : goal.returns
returns c =
    let w = c.args.table.now in
    on_ok_weaker c.put_other_ways.result
    (λ last.
    head-of-two (way_text c.args.listen.now) (map by_prefix w.maps) (other_ways w) c.args.out.now.items c.put_head.new.out.items c.put_mapped.new.out.items c.put_other_ways.new.out.items (head_text map_requests)
    c.in_ok-put_head.ensures (rw c.maps.ensures at c.in_ok-put_mapped.ensures) last)
    c.put_other_ways.ensures
