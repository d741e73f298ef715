-- Codes: methods and response codes (RFC 7252, 3 and 12.1).
use Rattle.std.specs.Prelude.{ℕ, ◌+◌, ◌*◌, ◌/◌, ◌==◌, ◌&&◌, Bool, not, nat_le}
use Rattle.coap_message.specs.declared.code.Code.{Code}

-- the code of a class and a detail, written `c.dd` (RFC 7252, 3)
abbrev pub code_of : ℕ → ℕ → Code
code_of class detail = record { 0 = 32 * class + detail }

-- the codes are equal
abbrev pub is_code : Code → Code → Bool
is_code a b = a.0 == b.0

-- a method: class 0, but not 0.00 (RFC 7252, 3 and 12.1.1)
abbrev pub is_request : Code → Bool
is_request c = (c.0 / 32 == 0) && not (c.0 == 0)

-- a response code: class 2, 3, 4 or 5 (RFC 7252, 12.1)
abbrev pub is_response : Code → Bool
is_response c = nat_le 2 (c.0 / 32) && nat_le (c.0 / 32) 5
