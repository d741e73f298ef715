-- Splitting a text at a byte.
use Rattle.std.specs.Prelude.{ℕ, ◌==◌, Bool, List, [], ◌∷◌, Option, Some, None, option_map, if◌then◌else◌}
use Rattle.std.specs.Borrow.{Bor}
use Rattle.std.specs.List.{list_any}

abbrev pub space : ℕ
space = 0x20

abbrev pub line_feed : ℕ
line_feed = 0x0A

abbrev pub dot : ℕ
dot = 0x2E

abbrev pub colon : ℕ
colon = 0x3A

abbrev pub left_bracket : ℕ
left_bracket = 0x5B

abbrev pub right_bracket : ℕ
right_bracket = 0x5D

abbrev pub number_sign : ℕ
number_sign = 0x23

-- whether a text contains a byte
abbrev pub has : ℕ → List ℕ → Bool
has byte text = list_any (λ b. b == byte) text

-- one more byte in front of the first part
abbrev pub with_front : ℕ → List ℕ × List ℕ → List ℕ × List ℕ
with_front b parts = (b ∷ parts.0, parts.1)

-- what comes before the first such byte and what comes after it, if there is one
abbrev pub cut : ℕ → List ℕ → Option (List ℕ × List ℕ)
cut byte [] = None
cut byte (b ∷ text) =
    if b == byte then Some ([], text) else option_map (with_front b) (cut byte text)

-- the two parts that a call returns, which are borrowed
abbrev pub parts_seen : Option (Bor (List ℕ) × Bor (List ℕ)) → Option (List ℕ × List ℕ)
parts_seen parts = option_map (λ p. (p.0.now, p.1.now)) parts
