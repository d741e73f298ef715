use Rattle.std.proofs.Common.{◌+◌, Some, ap}
use Rattle.endpoint_counts.specs.Slots.{found}
use Rattle.endpoint_counts.specs.Endpoints.{open_of, queued_of, sent_of}
use Rattle.endpoint_counts.proofs.EndpointCounting.{put-more, put-same}
use Rattle.endpoint_counts.proofs.endpoints.open_one.Goals as goal

pub returns-clause-all : goal.returns-clause-all
returns-clause-all c = put-more open_of (λ q. found q c.args.endpoints.now.items) (λ q. found q c.set.new.self.items) c.args.at (Some (record { all = c.counts_at-counts.result.all + 1; sent = c.counts_at-counts.result.sent; queued = c.counts_at-counts.result.queued + 1 })) 1 c.set.ensures.exact (ap (λ n. n + 1) c.counts_at-counts.ensures.all)

pub returns-clause-sent : goal.returns-clause-sent
returns-clause-sent c = put-same sent_of (λ q. found q c.args.endpoints.now.items) (λ q. found q c.set.new.self.items) c.args.at (Some (record { all = c.counts_at-counts.result.all + 1; sent = c.counts_at-counts.result.sent; queued = c.counts_at-counts.result.queued + 1 })) c.set.ensures.exact c.counts_at-counts.ensures.sent

pub returns-clause-queued : goal.returns-clause-queued
returns-clause-queued c = put-more queued_of (λ q. found q c.args.endpoints.now.items) (λ q. found q c.set.new.self.items) c.args.at (Some (record { all = c.counts_at-counts.result.all + 1; sent = c.counts_at-counts.result.sent; queued = c.counts_at-counts.result.queued + 1 })) 1 c.set.ensures.exact (ap (λ n. n + 1) c.counts_at-counts.ensures.queued)
