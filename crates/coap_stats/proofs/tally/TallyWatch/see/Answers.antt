use Rattle.coap_stats.proofs.tally.TallyWatch.see.Goals as goal

pub returns : goal.returns
returns g c = c.count.ensures c.args._core.now
