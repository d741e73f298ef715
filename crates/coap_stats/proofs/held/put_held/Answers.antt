use Rattle.std.proofs.Common.{◌++◌, map}
use Rattle.std.specs.List.{flat_map}
use Rattle.coap_stats.proofs.Adding.{last, more}
use Rattle.coap_stats.specs.Line.{fill_seen}
use Rattle.coap_stats.specs.Metrics.{count_text, head_text, held, limit, limit_text}
use Rattle.coap_stats.proofs.held.put_held.Goals as goal

pub returns : goal.returns
returns c =
    let counts = more c.args.out.now.items c.put_head.new.out.items c.put_amounts.new.out.items (head_text held) (flat_map (count_text c.args.listen.now) (map fill_seen c.args.fills.now)) c.in_ok-put_head.ensures c.in_ok-put_amounts.ensures in
    let heads = more c.args.out.now.items c.put_amounts.new.out.items c.put_head-2.new.out.items (head_text held ++ (flat_map (count_text c.args.listen.now) (map fill_seen c.args.fills.now))) (head_text limit) counts c.in_ok-put_head-2.ensures in
    last c.put_limits_of.result c.args.out.now.items c.put_head-2.new.out.items c.put_limits_of.new.out.items
    (head_text held ++ (flat_map (count_text c.args.listen.now) (map fill_seen c.args.fills.now)) ++ head_text limit) (flat_map (limit_text c.args.listen.now) (map fill_seen c.args.fills.now)) heads c.put_limits_of.ensures
