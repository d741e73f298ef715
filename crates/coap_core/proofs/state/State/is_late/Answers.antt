use Rattle.std.proofs.Common.{◌<◌, arith}
use Rattle.coap_limits.specs.declared.limits.Limit.TheVariants.{ExchangeMs}
use Rattle.coap_core.proofs.Ticking.{late-is}
use Rattle.coap_core.proofs.state.State.is_late.Goals as goal

pub returns : goal.returns
returns g c =
    let some : 0 < c.self.inside.setting.limits.exchange_ms = let range = (c.values.ensures.in_range ExchangeMs).0 in omega arith in
    rw (← c.self.view_is, c.values.ensures.exact, c.saturating_sub.ensures) (late-is c.args.exchange.now.admitted c.self.inside.setting.limits.exchange_ms c.args.now some)
