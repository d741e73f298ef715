-- No record up to here is live, and the number is that of the next one.
use Rattle.std.proofs.Common.{◌≡◌, ◌+◌, ◌-◌, ◌<◌, ◌≤◌, Some, length, slice_get}
use Rattle.coap_endpoint.specs.declared.endpoint.Endpoint.{Endpoint}
use Rattle.coap_dedup.specs.Lists.{living, records_from}
use Rattle.coap_dedup.specs.Sources.{numbers_from, share_of}
use Rattle.coap_dedup.proofs.records.count_dead_of.Given as goal

abbrev pub invariant-dead : goal.invariant-dead
invariant-dead l =
    (from : Endpoint) → Some l.share ≡ share_of (numbers_from l.numbers.first from l.ring.items)
    → (l.dead + length (living l.lifetime l.now (records_from from l.ring.items)) ≤ length (records_from from l.ring.items))
    × (l.dead < l.share.count → slice_get (numbers_from l.numbers.first from l.ring.items) l.dead ≡ Some l.number)

abbrev pub decreases-dead : goal.decreases-dead
decreases-dead l = l.share.count - l.dead
