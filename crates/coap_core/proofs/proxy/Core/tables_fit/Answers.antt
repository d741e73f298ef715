use Rattle.std.proofs.Common.{◌≤◌, List, arith, length}
use Rattle.coap_core.specs.Holders.{limit_of, owners}
use Rattle.coap_core.specs.declared.holders.SharedTable.{SharedTable}
use Rattle.coap_core.specs.declared.holders.SharedTable.TheVariants.{ConRecords, NonRecords, Exchanges, Waiters}
use Rattle.coap_model.specs.History.{Observation}
use Rattle.coap_model.specs.Carries.{Carries}
use Rattle.coap_model.specs.State.{State}
use Rattle.coap_core.proofs.Listing.{owners-length}
use Rattle.coap_core.proofs.proxy.Core.tables_fit.Goals as goal

-- the tables of a proxy that carries a history
fit : (history : List Observation) (w : State) → Carries history w → (table : SharedTable) → length (owners table w) ≤ limit_of table w.setting.limits
fit history w c ConRecords = omega (arith, c.bears.con_records.are.within, c.bears.con_records.limit, owners-length (λ r. r.from) w.con_records.items)
fit history w c NonRecords = omega (arith, c.bears.non_records.are.within, c.bears.non_records.limit, owners-length (λ r. r.from) w.non_records.items)
fit history w c Exchanges = omega (arith, c.bears.within.exchanges, owners-length (λ x. x.1.client) w.exchanges)
fit history w c Waiters = omega (arith, c.bears.within.waiters, owners-length (λ x. x.1.client) w.waiters)

pub returns : goal.returns
returns g c = rw (← c.self.view_is) (fit c.self.invariant.1.0 c.self.inside.state c.self.invariant.1.1)
