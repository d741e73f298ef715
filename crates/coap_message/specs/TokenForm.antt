-- A token is determined by its bytes.
use Rattle.std.specs.Prelude.{◌≡◌, ◌-◌, ◌++◌, ℕ, List, length, replicate}
use Rattle.std.proofs.Common.{arith, refl}
use Rattle.std.proofs.lemmas.List.{take-append-drop, length-take}
use Rattle.coap_message.specs.declared.token.Token.TheInside.{Inside}
use Rattle.coap_message.specs.Token.{token_bytes, IsToken}

-- the token with these bytes, padded with zeros
abbrev pub padded : List ℕ → Inside
padded bytes = record { places = bytes ++ replicate (8 - length bytes) 0; len = length bytes }

-- padding a token's bytes gives the token
pub one_form : (t : Inside) → IsToken t → padded (token_bytes t) ≡ t
one_form t is =
    let len : length (token_bytes t) ≡ t.len =
    omega (arith, length-take t.len t.places, is.places, is.within) in
    let filled : token_bytes t ++ replicate (8 - length (token_bytes t)) 0 ≡ t.places =
    rw (len, ← is.unused) (take-append-drop t.len t.places) in
    rw (filled, len) refl
