-- The two hexadecimal digits of a byte, by the table.
use Rattle.std.proofs.Common.{◌≡◌, ◌==◌, ◌&&◌, ◌+◌, ◌*◌, ◌/◌, ◌%◌, ◌<◌, ℕ, zero, suc, Bool, true, refl, arith, get_or, inl, inr}
use Rattle.std.proofs.lemmas.Bool.{and_parts, cases_lt, eqb-true}
use Rattle.hex.specs.Hex.{upper_digits}
use Rattle.coap_lines.specs.declared.writing.datagram.TheConstants.{PAIRS}

-- the first n numbers pass a test
abbrev all_pass : (ℕ → Bool) → ℕ → Bool
all_pass test zero = true
all_pass test (suc n) = test n && all_pass test n

-- so each of them does
passes-at : (test : ℕ → Bool) (n k : ℕ) → all_pass test n ≡ true → k < n → test k ≡ true
passes-at test zero k all below = absurd (omega arith)
passes-at test (suc n) k all below =
    let parts = and_parts (test n) (all_pass test n) all in
    elim (cases_lt k n) [
      | inl before ↦ passes-at test n k parts.1 before
      | inr last ↦
          let same : k ≡ n = omega arith in
          rw same parts.0
    ]

-- the digits of a byte are right
abbrev is_right : ℕ → Bool
is_right n = (get_or PAIRS.now (2 * n) 0 == get_or upper_digits (n / 16) 0) && (get_or PAIRS.now (2 * n + 1) 0 == get_or upper_digits (n % 16) 0)

-- the table has the two digits of each byte
pub pair-at : (b : ℕ) → b < 256 → (get_or PAIRS.now (2 * b) 0 ≡ get_or upper_digits (b / 16) 0) × (get_or PAIRS.now (2 * b + 1) 0 ≡ get_or upper_digits (b % 16) 0)
pair-at b below =
    let both = and_parts (get_or PAIRS.now (2 * b) 0 == get_or upper_digits (b / 16) 0) (get_or PAIRS.now (2 * b + 1) 0 == get_or upper_digits (b % 16) 0) (passes-at is_right 256 b refl below) in
    (eqb-true (get_or PAIRS.now (2 * b) 0) (get_or upper_digits (b / 16) 0) both.0, eqb-true (get_or PAIRS.now (2 * b + 1) 0) (get_or upper_digits (b % 16) 0) both.1)
