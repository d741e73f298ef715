use Rattle.std.proofs.Common.{rules}
use Rattle.coap_limits.proofs.limits.Limit.range.Goals as goal

pub returns-in-Waiters : goal.returns-in-Waiters
returns-in-Waiters c = search rules

pub returns-in-CacheEntries : goal.returns-in-CacheEntries
returns-in-CacheEntries c = search rules

pub returns-in-Datagram : goal.returns-in-Datagram
returns-in-Datagram c = search rules
