-- Digests of cache keys and of targets, by which tables find them.
use Rattle.std.specs.Prelude.{ℕ, ◌++◌}
use Rattle.std.specs.Hash.{u64}
use Rattle.std.specs.Hash.DefaultHasher as sip
use Rattle.std.specs.List.{fold}
use Rattle.coap_endpoint.specs.contracts.target.TargetHash.TheImpl as targets
use Rattle.coap_endpoint.specs.declared.target.Target.{Target}
use Rattle.coap_store.specs.contracts.key.CacheKeyHash.TheImpl as keys
use Rattle.coap_store.specs.declared.digests.Digests.{Digests}
use Rattle.coap_store.specs.declared.key.CacheKey.{CacheKey}

-- the digest of a target, which is hashed after a number that peers don't know
unfoldable pub digest_of_target : ℕ → Target → ℕ
digest_of_target secret target =
    sip.finish (fold sip.write sip.initial (u64 secret ++ (targets.ghosts).hash_input target))

-- that of a cache key
unfoldable pub digest_of_key : ℕ → CacheKey → ℕ
digest_of_key secret key =
    sip.finish (fold sip.write sip.initial (u64 secret ++ (keys.ghosts).hash_input key))

-- those of a cache key and of its target
abbrev pub digests_of : ℕ → CacheKey → Digests
digests_of secret key =
    record { key = digest_of_key secret key; target = digest_of_target secret key.target }
