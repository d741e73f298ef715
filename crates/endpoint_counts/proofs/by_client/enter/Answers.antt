use Rattle.std.proofs.Common.{Some, ap, arith}
use Rattle.endpoint_counts.specs.declared.endpoints.EndpointCounts.{EndpointCounts}
use Rattle.endpoint_counts.specs.Slots.{found}
use Rattle.endpoint_counts.specs.Endpoints.{open_of}
use Rattle.endpoint_counts.proofs.EndpointCounting.{put-more}
use Rattle.endpoint_counts.proofs.by_client.enter.Goals as goal

pub returns-clause-exact : goal.returns-clause-exact
returns-clause-exact c = put-more open_of (λ q. found q c.args.clients.now.items) (λ q. found q c.set.new.self.items) c.args.client (Some c.items.result) 1 c.set.ensures.exact (let all = ap (λ (i : EndpointCounts). i.all) c.items.ensures.exact in omega (arith, all, c.counts_at-count.ensures.all))
