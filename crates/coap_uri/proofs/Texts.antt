-- Which bytes are UTF-8.
use Rattle.std.proofs.Common.{◌≡◌, ℕ, ◌<◌, Bool, true, false, List, [], ◌∷◌, All, ⊎_elim}
use Rattle.std.specs.List.{list_all}
use Rattle.std.specs.Str.{IsUtf8, is_utf8}
use Rattle.std.proofs.lemmas.Bool.{cases_Bool, and_parts}
use Rattle.std.proofs.lemmas.List.Elements.{All-nil, All-cons}
use Rattle.std.proofs.lemmas.Str.{IsUtf8-from_ascii, IsUtf8-from_is_utf8}
use Rattle.std.proofs.lemmas.Str.Ascii.{IsAscii-from_all}

-- bytes that aren't UTF-8 fail the test
pub not_utf8 : (bytes : List ℕ) → (IsUtf8 bytes → ⊥) → is_utf8 bytes ≡ false
not_utf8 bytes never =
    ⊎_elim (λ is. absurd (never (IsUtf8-from_is_utf8 bytes is))) (λ is. is) (cases_Bool (is_utf8 bytes))

-- A test that only ASCII bytes pass.
module _ (test : ℕ → Bool) (ascii : (b : ℕ) → test b ≡ true → b < 128) where
  -- so all bytes that pass it are ASCII
  All-ascii : (bytes : List ℕ) → list_all test bytes ≡ true → All (λ b. b < 128) bytes
  All-ascii [] all = All-nil (λ b. b < 128)
  All-ascii (b ∷ bytes) all =
      let parts = and_parts (test b) (list_all test bytes) all in
      All-cons (λ (x : ℕ). x < 128) b bytes (ascii b parts.0) (All-ascii bytes parts.1)

  -- and they are UTF-8
  pub passing-utf8 : (bytes : List ℕ) → list_all test bytes ≡ true → IsUtf8 bytes
  passing-utf8 bytes all = IsUtf8-from_ascii bytes (IsAscii-from_all bytes (All-ascii bytes all))
