use Rattle.std.proofs.Common.{sym}
use Rattle.coap_stats.proofs.statistics.StatisticsWatch.see.Goals as goal

pub returns : goal.returns
returns g c =
    let after = c.args.core.now in
    record {
      tally = c.count.ensures after;
      maps = c.count_way.ensures after (sym c.routes.ensures.exact);
      origins = c.count_origin.ensures;
      openings = c.count_opening.ensures after;
    }
