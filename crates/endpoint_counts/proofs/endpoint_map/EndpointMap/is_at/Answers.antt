use Rattle.std.proofs.Common.{rules}
use Rattle.endpoint_counts.proofs.endpoint_map.EndpointMap.is_at.Goals as goal

pub returns-in-Some : goal.returns-in-Some
returns-in-Some c = search rules
