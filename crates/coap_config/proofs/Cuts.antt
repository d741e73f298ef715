-- Texts that are split at a character.
use Rattle.std.proofs.Common.{◌≡◌, ◌==◌, ◌<◌, ℕ, true, false, [], ◌∷◌, length, Option, Some, None, Bor, MatchOption, option_map, refl, sym, ap, arith, ⊎_elim, ltb}
use Rattle.std.specs.List.{after_first, before_first, position_or_len}
use Rattle.std.proofs.lemmas.Bool.{cases_Bool, le-ltb, lt-ltb, ltb-true}
use Rattle.std.proofs.lemmas.List.Splits.{slice_split_first}
use Rattle.std.proofs.lemmas.Option.{none-some}
use Rattle.coap_uri.proofs.Cutting.{slice_split-whole}
use Rattle.coap_config.specs.ProxyOption.{comma, parts}
use Rattle.coap_config.specs.Texts.{Text, cut_at}

-- two borrowed texts
abbrev pub Lent : Type 0
Lent = Bor Text × Bor Text

-- their bytes
abbrev pub both : Lent → Text × Text
both lent = (lent.0.now, lent.1.now)

-- `split_once` splits the text where the definition does
pub cut-is : (c : ℕ) (text : Text) (r : Option Lent)
    → MatchOption r (position_or_len (λ b. b == c) text ≡ length text)
    (λ x. (position_or_len (λ b. b == c) text < length text) × (x.0.now ≡ before_first (λ b. b == c) text) × (x.1.now ≡ after_first (λ b. b == c) text))
    → option_map both r ≡ cut_at c text
cut-is c text None ends =
    let no : ltb (position_or_len (λ b. b == c) text) (length text) ≡ false = le-ltb _ _ (omega arith) in
    rw no refl
cut-is c text (Some x) is =
    let yes : ltb (position_or_len (λ b. b == c) text) (length text) ≡ true = lt-ltb _ _ is.0 in
    rw (yes, is.1, is.2) refl

-- the parts of a text that is split
pub parts-cut : (text name after : Text) → Some (name, after) ≡ cut_at comma text → parts text ≡ name ∷ parts after
parts-cut text name after is =
    ⊎_elim
    (λ yes.
    let cut : Some (name, after) ≡ Some (before_first (λ b. b == comma) text, after_first (λ b. b == comma) text) = rw yes at is in
    let first : name ≡ before_first (λ b. b == comma) text = ap (λ o. front o) cut in
    let rest : after ≡ after_first (λ b. b == comma) text = ap (λ o. back o) cut in
    rw (first, rest) (slice_split_first (λ b. b == comma) text 0 (ltb-true _ _ yes)))
    (λ no. absurd (none-some (name, after) (sym (rw no at is))))
    (cases_Bool (ltb (position_or_len (λ b. b == comma) text) (length text)))
  where
    front : Option (Text × Text) → Text
    front None = []
    front (Some parts) = parts.0

    back : Option (Text × Text) → Text
    back None = []
    back (Some parts) = parts.1

-- the part of a text without a comma
pub parts-whole : (text : Text) → None ≡ cut_at comma text → parts text ≡ text ∷ []
parts-whole text is =
    ⊎_elim
    (λ yes.
    let cut : None ≡ Some (before_first (λ b. b == comma) text, after_first (λ b. b == comma) text) = rw yes at is in
    absurd (none-some _ cut))
    (λ no. slice_split-whole (λ b. b == comma) text (rw no refl))
    (cases_Bool (ltb (position_or_len (λ b. b == comma) text) (length text)))
