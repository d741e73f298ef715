use Rattle.std.proofs.Common.{◌++◌, ◌/◌}
use Rattle.coap_stats.proofs.Adding.{last, more}
use Rattle.coap_stats.specs.Metrics.{uptime, received, sent, send_faults, lost, resent, gave_up, metric_text}
use Rattle.coap_stats.proofs.metrics.put_traffic.Goals as goal

pub returns : goal.returns
returns c =
    let two = more c.args.out.now.items c.put_metric.new.out.items c.put_metric-2.new.out.items ((metric_text c.args.listen.now uptime (c.args.tally.now.last / 1000))) (metric_text c.args.listen.now received c.args.tally.now.received) c.in_ok-put_metric.ensures c.in_ok-put_metric-2.ensures in
    let three = more c.args.out.now.items c.put_metric-2.new.out.items c.put_metric-3.new.out.items ((metric_text c.args.listen.now uptime (c.args.tally.now.last / 1000)) ++ (metric_text c.args.listen.now received c.args.tally.now.received)) (metric_text c.args.listen.now sent c.args.tally.now.sent) two c.in_ok-put_metric-3.ensures in
    let four = more c.args.out.now.items c.put_metric-3.new.out.items c.put_metric-4.new.out.items ((metric_text c.args.listen.now uptime (c.args.tally.now.last / 1000)) ++ (metric_text c.args.listen.now received c.args.tally.now.received) ++ (metric_text c.args.listen.now sent c.args.tally.now.sent)) (metric_text c.args.listen.now send_faults c.args.tally.now.send_faults) three c.in_ok-put_metric-4.ensures in
    let five = more c.args.out.now.items c.put_metric-4.new.out.items c.put_metric-5.new.out.items ((metric_text c.args.listen.now uptime (c.args.tally.now.last / 1000)) ++ (metric_text c.args.listen.now received c.args.tally.now.received) ++ (metric_text c.args.listen.now sent c.args.tally.now.sent) ++ (metric_text c.args.listen.now send_faults c.args.tally.now.send_faults)) (metric_text c.args.listen.now lost c.args.tally.now.lost) four c.in_ok-put_metric-5.ensures in
    let six = more c.args.out.now.items c.put_metric-5.new.out.items c.put_metric-6.new.out.items ((metric_text c.args.listen.now uptime (c.args.tally.now.last / 1000)) ++ (metric_text c.args.listen.now received c.args.tally.now.received) ++ (metric_text c.args.listen.now sent c.args.tally.now.sent) ++ (metric_text c.args.listen.now send_faults c.args.tally.now.send_faults) ++ (metric_text c.args.listen.now lost c.args.tally.now.lost)) (metric_text c.args.listen.now resent c.args.tally.now.resent) five c.in_ok-put_metric-6.ensures in
    last c.put_metric-7.result c.args.out.now.items c.put_metric-6.new.out.items c.put_metric-7.new.out.items ((metric_text c.args.listen.now uptime (c.args.tally.now.last / 1000)) ++ (metric_text c.args.listen.now received c.args.tally.now.received) ++ (metric_text c.args.listen.now sent c.args.tally.now.sent) ++ (metric_text c.args.listen.now send_faults c.args.tally.now.send_faults) ++ (metric_text c.args.listen.now lost c.args.tally.now.lost) ++ (metric_text c.args.listen.now resent c.args.tally.now.resent)) (metric_text c.args.listen.now gave_up c.args.tally.now.gave_up) six c.put_metric-7.ensures
