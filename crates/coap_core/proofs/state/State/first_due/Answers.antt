use Rattle.coap_limits.specs.declared.limits.Limit.TheVariants.{ExchangeMs}
use Rattle.coap_core.proofs.state.State.first_due.Goals as goal

pub due-exchange-requires : goal.due-exchange-requires
due-exchange-requires g c = rw c.values-limits.ensures.exact (c.values-limits.ensures.in_range ExchangeMs).1
