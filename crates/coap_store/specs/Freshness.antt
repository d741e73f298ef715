-- How long a stored response is used (RFC 7252, 5.6.1, 5.7.1 and 5.10.5). Moments are in
-- milliseconds, a Max-Age is in seconds.
use Rattle.std.specs.Prelude.{ℕ, ◌-◌, ◌*◌, ◌&&◌, Bool, not, nat_le}
use Rattle.std.specs.Int.{div_ceil}
use Rattle.coap_message.specs.Message.{Message}
use Rattle.coap_option.specs.Selection.{max_age_of}
use Rattle.coap_store.specs.declared.stored.Stored.{Stored}

-- how long ago it came
abbrev pub age_of : ℕ → Stored → ℕ
age_of now stored = now - stored.got

-- it is fresh until its Max-Age has passed, including the last moment of that time
abbrev pub is_fresh : ℕ → Stored → Bool
is_fresh now stored = nat_le (age_of now stored) (1000 * max_age_of stored.response)

-- how many seconds a response of this age stays fresh: a second that has begun counts as gone
abbrev pub left_at : ℕ → Message → ℕ
left_at age response = max_age_of response - div_ceil age 1000

-- how many seconds a stored response stays fresh from this moment on
abbrev pub left_of : ℕ → Stored → ℕ
left_of now stored = left_at (age_of now stored) stored.response

-- it may answer a request: it is fresh, and not marked
abbrev pub is_usable : ℕ → Stored → Bool
is_usable now stored = is_fresh now stored && not stored.marked
