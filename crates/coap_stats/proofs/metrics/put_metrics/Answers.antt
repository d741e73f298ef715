use Rattle.std.proofs.lemmas.Result.{on_ok_weaker}
use Rattle.coap_stats.proofs.Adding.{five}
use Rattle.coap_stats.specs.Line.{fills}
use Rattle.coap_stats.specs.Metrics.{held_text}
use Rattle.coap_stats.specs.Series.{holders_text, maps_text, origins_text, own_text}
use Rattle.coap_stats.proofs.metrics.put_metrics.Goals as goal

pub returns : goal.returns
returns c =
    let listen = c.args.listen.now in
    let s = c.args.statistics.now in
    on_ok_weaker c.put_holders.result
    (λ last.
    five c.args.out.now.items c.put_own.new.out.items c.put_maps.new.out.items c.put_origins.new.out.items c.put_held.new.out.items c.put_holders.new.out.items
    (own_text listen s) (maps_text listen s.maps) (origins_text listen s.tally.last s.origins) (held_text listen (fills c.args.counts.now c.args.limits.now)) (holders_text listen s.tally.last s.holders)
    c.in_ok-put_own.ensures c.in_ok-put_maps.ensures c.in_ok-put_origins.ensures (rw c.fills.ensures at c.in_ok-put_held.ensures) last)
    c.put_holders.ensures
