use Rattle.std.proofs.Common.{rules}
use Rattle.endpoint_counts.proofs.digested_endpoint.DigestedEndpoint.new.Goals as goal

pub invariant_of-result : goal.invariant_of-result
invariant_of-result c = search rules
