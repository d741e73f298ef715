-- When two cache keys are equal (RFC 7252, 5.6).
use Rattle.std.specs.Prelude.{◌≡◌, Bool, ◌&&◌, []}
use Rattle.coap_message.specs.SameOptions.{same_options}
use Rattle.coap_endpoint.specs.Equality.{same_target}
use Rattle.coap_endpoint.specs.Target.{IsEmptied}
use Rattle.coap_store.specs.declared.key.CacheKey.{CacheKey}

-- the same target, and the same options that are part of the key
abbrev pub same_key : CacheKey → CacheKey → Bool
same_key a b = same_target a.target b.target && same_options a.options b.options

-- no bytes of a host, a path or a query, and no options
pub record IsEmptiedKey (k : CacheKey) : Type 0 where
  pub target : IsEmptied k.target
  pub options : k.options ≡ []
