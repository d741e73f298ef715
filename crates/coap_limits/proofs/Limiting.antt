-- Limits none of which is at fault are within their ranges.
use Rattle.std.proofs.Common.{◌≡◌, Bool, true, false, leb, None, refl}
use Rattle.std.specs.Prelude.{not}
use Rattle.std.specs.List.{AllByRecursion}
use Rattle.std.proofs.lemmas.Bool.{leb-true, and_parts}
use Rattle.coap_limits.specs.declared.limits.Limit.{Limit}
use Rattle.coap_limits.specs.declared.limits.Limit.TheVariants.{CacheBytes, CacheEntries, ConRecords, NonRecords, Exchanges, Waiters, Nstart, Datagram, ExchangeMs, RetryS, ClientConRecords, ClientNonRecords, ClientExchanges, ClientWaiters}
use Rattle.coap_limits.specs.Limits.{Limits, value_of, range_of, MayBe, AreLimits, is_out, all_limits, first_fault}
use Rattle.coap_endpoint.proofs.Lists.{none-found}

-- what isn't false is true
not_out : (b : Bool) → not b ≡ false → b ≡ true
not_out true e = refl
not_out false e = absurd cc

-- a limit that isn't out of its range is within it
allowed : (l : Limits) (limit : Limit) → is_out l limit ≡ false → MayBe limit (value_of l limit)
allowed l limit e =
    let parts = and_parts (leb (range_of limit).0 (value_of l limit)) (leb (value_of l limit) (range_of limit).1) (not_out _ e) in
    (leb-true _ _ parts.0, leb-true _ _ parts.1)

-- the list of all limits contains each
each : (P : Limit → Type 0) → AllByRecursion P all_limits → (limit : Limit) → P limit
each P all CacheBytes = all.0
each P all CacheEntries = all.1.0
each P all ConRecords = all.1.1.0
each P all NonRecords = all.1.1.1.0
each P all Exchanges = all.1.1.1.1.0
each P all Waiters = all.1.1.1.1.1.0
each P all Nstart = all.1.1.1.1.1.1.0
each P all Datagram = all.1.1.1.1.1.1.1.0
each P all ExchangeMs = all.1.1.1.1.1.1.1.1.0
each P all RetryS = all.1.1.1.1.1.1.1.1.1.0
each P all ClientConRecords = all.1.1.1.1.1.1.1.1.1.1.0
each P all ClientNonRecords = all.1.1.1.1.1.1.1.1.1.1.1.0
each P all ClientExchanges = all.1.1.1.1.1.1.1.1.1.1.1.1.0
each P all ClientWaiters = all.1.1.1.1.1.1.1.1.1.1.1.1.1.0

-- limits none of which is at fault are within their ranges
pub are-limits : (l : Limits) → first_fault l ≡ None → AreLimits l
are-limits l e limit = allowed l limit (each (λ m. is_out l m ≡ false) (none-found (is_out l) all_limits e) limit)
