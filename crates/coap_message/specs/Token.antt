-- A token as eight places, of which the first `len` count; the others are 0, so that a token has a
-- unique form.
use Rattle.std.specs.Prelude.{◌≡◌, ℕ, ◌-◌, ◌≤◌, List, length, take, drop, replicate}
use Rattle.coap_message.specs.declared.token.Token.TheInside.{Inside}

abbrev pub token_bytes : Inside → List ℕ
token_bytes t = take t.len t.places

-- a token has at most eight bytes (RFC 7252, 3)
pub record IsToken (t : Inside) : Type 0 where
  pub places : length t.places ≡ 8
  pub within : t.len ≤ 8
  pub unused : drop t.len t.places ≡ replicate (8 - t.len) 0
