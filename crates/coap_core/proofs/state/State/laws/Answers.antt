use Rattle.std.proofs.Common.{arith}
use Rattle.coap_limits.specs.declared.limits.Limit.TheVariants.{Datagram}
use Rattle.coap_core.proofs.state.State.laws.Goals as goal

pub returns : goal.returns
returns g c = let range = (c.values-laws.ensures.in_range Datagram).0 in rw (← c.self.view_is) (omega (arith, range))
