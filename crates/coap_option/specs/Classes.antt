-- The classes of options, by the bits of their numbers (RFC 7252, 5.4.6).
use Rattle.std.specs.Prelude.{ℕ, Bool, ◌==◌, bit_and}

-- the lowest bit: critical if set, otherwise elective
abbrev pub is_critical : ℕ → Bool
is_critical number = bit_and number 1 == 1

-- the next bit: unsafe to forward if not recognised, otherwise safe
abbrev pub is_unsafe : ℕ → Bool
is_unsafe number = bit_and number 2 == 2

-- safe, and with the three bits above that one all set: not part of the cache key
abbrev pub is_no_cache_key : ℕ → Bool
is_no_cache_key number = bit_and number 0x1e == 0x1c
