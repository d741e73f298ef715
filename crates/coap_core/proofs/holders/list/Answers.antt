use Rattle.std.proofs.Common.{arith}
use Rattle.endpoint_counts.proofs.Fewer.{few-entries}
use Rattle.coap_pending.specs.declared.exchange.Exchange.{Exchange}
use Rattle.coap_pending.specs.declared.waiter.Waiter.{Waiter}
use Rattle.coap_core.proofs.Listing.{are-clients, are-records, owners-length}
use Rattle.coap_core.proofs.holders.list.Goals as goal

pub list_clients-requires-clause-fits : goal.list_clients-requires-clause-fits
list_clients-requires-clause-fits g c =
    let few = few-entries (λ (x : Exchange). x.client) c.openers-clients.result.now c.args.core.now.exchanges c.laws.ensures.sound c.laws.ensures.distinct c.laws.ensures.some c.openers-clients.ensures.exact in
    let fits = rw c.in-Exchanges.is at c.requires.fits in
    omega (arith, few, fits, owners-length (λ x. x.1.client) c.args.core.now.exchanges)

pub list_clients-requires-in-Waiters-clause-fits : goal.list_clients-requires-in-Waiters-clause-fits
list_clients-requires-in-Waiters-clause-fits g c =
    let few = few-entries (λ (x : Waiter). x.client) c.waiting_clients-clients.result.now c.args.core.now.waiters c.laws-in-Waiters.ensures.sound c.laws-in-Waiters.ensures.distinct c.laws-in-Waiters.ensures.some c.waiting_clients-clients.ensures.exact in
    let fits = rw c.in-Waiters.is at c.requires.fits in
    omega (arith, few, fits, owners-length (λ x. x.1.client) c.args.core.now.waiters)

pub returns-in-ConRecords-clause-listed : goal.returns-in-ConRecords-clause-listed
returns-in-ConRecords-clause-listed g c = rw (c.in-ConRecords.is, c.list_records.ensures.listed) (are-records c.args.core.now.con_records.items)

pub returns-in-NonRecords-clause-listed : goal.returns-in-NonRecords-clause-listed
returns-in-NonRecords-clause-listed g c = rw (c.in-NonRecords.is, c.list_records-in-NonRecords.ensures.listed) (are-records c.args.core.now.non_records.items)

pub returns-in-Exchanges-clause-listed : goal.returns-in-Exchanges-clause-listed
returns-in-Exchanges-clause-listed g c =
    rw (c.in-Exchanges.is, c.list_clients.ensures.listed)
    (are-clients (λ (x : Exchange). x.client) c.openers-clients.result.now c.args.core.now.exchanges c.laws.ensures.sound c.laws.ensures.distinct c.laws.ensures.some c.openers-clients.ensures.exact)

pub returns-in-Waiters-clause-listed : goal.returns-in-Waiters-clause-listed
returns-in-Waiters-clause-listed g c =
    rw (c.in-Waiters.is, c.list_clients-in-Waiters.ensures.listed)
    (are-clients (λ (x : Waiter). x.client) c.waiting_clients-clients.result.now c.args.core.now.waiters c.laws-in-Waiters.ensures.sound c.laws-in-Waiters.ensures.distinct c.laws-in-Waiters.ensures.some c.waiting_clients-clients.ensures.exact)
