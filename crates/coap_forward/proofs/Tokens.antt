-- Tokens of exchanges (RFC 7252, 5.3.1): those of two exchanges differ, and the number is read back off one.
use Rattle.std.proofs.Common.{◌≡◌, ℕ, ◌+◌, ◌-◌, ◌%◌, ◌^◌, ◌<◌, List, [], ◌∷◌, length, refl, sym, ap, ◌∙◌, arith}
use Rattle.std.specs.Prelude.{slice_index}
use Rattle.std.specs.Int.{w64, from_be_bytes}
use Rattle.std.proofs.lemmas.Nat.{be_bytes_8, from_be_bytes-to_be_bytes_8}
use Rattle.coap_message.specs.Uint.{uint_of}
use Rattle.coap_forward.specs.Messages.{token_of}

-- a token has eight bytes
pub length-token_of : (salt number : ℕ) → length (token_of salt number) ≡ 8
unfolding token_of
length-token_of salt number = refl

-- tokens of two exchanges differ
pub token-same : (salt m n : ℕ) → m < 2 ^ 64 → n < 2 ^ 64 → token_of salt m ≡ token_of salt n → m ≡ n
unfolding token_of
token-same salt m n small_m small_n same =
    let a = from_be_bytes-to_be_bytes_8 ((salt + m) % 2 ^ 64) (omega arith) in
    let b = from_be_bytes-to_be_bytes_8 ((salt + n) % 2 ^ 64) (omega arith) in
    let sums : (salt + m) % 2 ^ 64 ≡ (salt + n) % 2 ^ 64 = sym a ∙ ap (from_be_bytes w64) same ∙ b in
    omega (arith, sums)

-- the number that eight bytes stand for is the one that eight bytes are read as
eight : (a b c d e f g h : ℕ) → uint_of (a ∷ b ∷ c ∷ d ∷ e ∷ f ∷ g ∷ h ∷ []) ≡ from_be_bytes w64 (a ∷ b ∷ c ∷ d ∷ e ∷ f ∷ g ∷ h ∷ [])
eight a b c d e f g h = omega arith

-- the same of any list of eight bytes
uint_of-eight : (bs : List ℕ) → length bs ≡ 8 → uint_of bs ≡ from_be_bytes w64 bs
uint_of-eight (a ∷ b ∷ c ∷ d ∷ e ∷ f ∷ g ∷ h ∷ []) l = eight a b c d e f g h
uint_of-eight [] l = absurd cc
uint_of-eight (a ∷ []) l = absurd cc
uint_of-eight (a ∷ b ∷ []) l = absurd cc
uint_of-eight (a ∷ b ∷ c ∷ []) l = absurd cc
uint_of-eight (a ∷ b ∷ c ∷ d ∷ []) l = absurd cc
uint_of-eight (a ∷ b ∷ c ∷ d ∷ e ∷ []) l = absurd cc
uint_of-eight (a ∷ b ∷ c ∷ d ∷ e ∷ f ∷ []) l = absurd cc
uint_of-eight (a ∷ b ∷ c ∷ d ∷ e ∷ f ∷ g ∷ []) l = absurd cc
uint_of-eight (a ∷ b ∷ c ∷ d ∷ e ∷ f ∷ g ∷ h ∷ i ∷ more) l = absurd (omega (arith, l))

-- what the salt was added to is found by taking it away
sum-back : (salt sum : ℕ) → salt < 18446744073709551616 → sum < 18446744073709551616 → (salt + (sum + (18446744073709551616 - salt)) % 18446744073709551616) % 18446744073709551616 ≡ sum
sum-back salt sum small less = omega arith

-- the token of the number that is read off it
pub token-back : (salt sum : ℕ) (bs : List ℕ) → salt < 18446744073709551616 → sum < 18446744073709551616 → length bs ≡ 8 → ((i : ℕ) → slice_index bs i < 256) → sum ≡ uint_of bs
    → token_of salt ((sum + (18446744073709551616 - salt)) % 18446744073709551616) ≡ bs
unfolding token_of
token-back salt sum bs small less eight bytes is =
    be_bytes_8 bs _ eight bytes (sum-back salt sum small less ∙ is ∙ uint_of-eight bs eight)
