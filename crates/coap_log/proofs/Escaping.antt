-- The values in a line.
use Rattle.std.proofs.Common.{◌≡◌, ℕ, ◌/◌, ◌%◌, Bool, true, false, cond, List, [], ◌∷◌, refl, arith}
use Rattle.std.specs.List.{All}
use Rattle.std.proofs.lemmas.List.Elements.{All-nil, All-cons, All-append}
use Rattle.coap_log.specs.Values.{EndsNothing, escape, escaped, hex_digit, is_plain}

-- Neither a plain byte nor a hexadecimal digit ends a line, a word or a value.
plain : (b : ℕ) → is_plain b ≡ true → EndsNothing b
plain b is = record { printed = grind arith; quotation = grind arith; equals = grind arith }

digit : (n : ℕ) → EndsNothing (hex_digit n)
digit n = record { printed = grind arith; quotation = grind arith; equals = grind arith }

percent : EndsNothing 0x25
percent = record { printed = omega arith; quotation = grind arith; equals = grind arith }

by_case : (t : Bool) (b : ℕ) → (t ≡ true → EndsNothing b)
    → All EndsNothing (cond t (b ∷ []) (0x25 ∷ hex_digit (b / 16) ∷ hex_digit (b % 16) ∷ []))
by_case true b is = All-cons EndsNothing b [] (is refl) (All-nil EndsNothing)
by_case false b is =
    All-cons EndsNothing 0x25 (hex_digit (b / 16) ∷ hex_digit (b % 16) ∷ []) percent
    (All-cons EndsNothing (hex_digit (b / 16)) (hex_digit (b % 16) ∷ []) (digit (b / 16))
    (All-cons EndsNothing (hex_digit (b % 16)) [] (digit (b % 16)) (All-nil EndsNothing)))

pub escaped-ends_nothing : (bytes : List ℕ) → All EndsNothing (escaped bytes)
escaped-ends_nothing [] = All-nil EndsNothing
escaped-ends_nothing (b ∷ bytes) =
    All-append EndsNothing (escape b) (escaped bytes) (by_case (is_plain b) b (plain b)) (escaped-ends_nothing bytes)
