-- Cache keys with the secret that their digests were made with.
use Rattle.std.specs.Prelude.{ℕ, Bool, ◌&&◌, ◌==◌}
use Rattle.std.specs.Hash.{HashWrites, u64}
use Rattle.coap_store.specs.declared.key.CacheKey.{CacheKey}
use Rattle.coap_store.specs.Digests.{digest_of_key}
use Rattle.coap_store.specs.Keys.{same_key}

-- a cache key, with a secret
pub record Digested : Type 0 where
  pub key : CacheKey
  pub secret : ℕ

-- a key with this secret
abbrev pub digested : ℕ → CacheKey → Digested
digested secret key = record { key = key; secret = secret }

-- two have the same secret, and the same key
abbrev pub same_digested : Digested → Digested → Bool
same_digested a b = (a.secret == b.secret) && same_key a.key b.key

-- what one feeds to a hasher: the digest of its key
abbrev pub fed_digested : Digested → HashWrites
fed_digested d = u64 (digest_of_key d.secret d.key)
