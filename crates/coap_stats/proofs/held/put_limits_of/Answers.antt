use Rattle.coap_stats.proofs.Adding.{loop-more}
use Rattle.coap_stats.specs.Line.{fill_seen}
use Rattle.coap_stats.specs.Metrics.{limit_text}
use Rattle.coap_stats.proofs.held.put_limits_of.Goals as goal

pub loop-fill-preserved : goal.loop-fill-preserved
loop-fill-preserved c =
    loop-more (limit_text c.args.listen.now) fill_seen c.args.fills.now c.loop-fill.fill-index _ c.args.out.now.items c.loop-fill.out.items c.put_limit.new.out.items c.loop-fill-test.true c.loop-fill.invariant c.in_ok-put_limit.ensures
