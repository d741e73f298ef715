-- Texts without escapes.
use Rattle.std.proofs.Common.{◌≡◌, ◌==◌, ◌∙◌, ℕ, false, List, [], ◌∷◌, ap}
use Rattle.std.specs.List.{list_any}
use Rattle.std.proofs.lemmas.Bool.{or_parts, eqb-false}
use Rattle.percent_encoding.specs.Percent.{percent_decode}
use Rattle.percent_encoding.proofs.PercentLemmas.{percent_decode-nil, percent_decode_not_percent}

-- a text without `%` isn't changed by decoding
pub percent_decode_plain : (text : List ℕ) → list_any (λ b. b == 37) text ≡ false → percent_decode text ≡ text
percent_decode_plain [] none = percent_decode-nil
percent_decode_plain (b ∷ text) none =
    let parts = or_parts (b == 37) (list_any (λ b. b == 37) text) none in
    percent_decode_not_percent b text (eqb-false b 37 parts.0) ∙ ap (λ rest. b ∷ rest) (percent_decode_plain text parts.1)
