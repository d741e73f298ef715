-- What the prefixes of maps are written as.
use Rattle.std.proofs.Common.{◌≡◌, ℕ, ◌/◌, ◌%◌, ◌<◌, Bool, true, false, ◌||◌, cond, List, [], ◌∷◌, refl, arith}
use Rattle.std.specs.Char.{is_ascii_alphanumeric}
use Rattle.std.specs.Fmt.{digit_glyph}
use Rattle.std.specs.List.{All, flat_map, list_any}
use Rattle.std.specs.Prelude.{◌==◌}
use Rattle.std.proofs.lemmas.List.Elements.{All-nil, All-cons, All-append}
use Rattle.percent_encoding.specs.Percent.{percent_encode_byte}
use Rattle.coap_stats.specs.Labels.{EndsNothing, escape, path_text, plain, segment_text}

-- none of these ends anything: a percent sign, a hexadecimal digit, and what stands for itself
percent : EndsNothing 0x25
percent = record { quotation = grind arith; backslash = grind arith; line_feed = grind arith }

digit : (n : ℕ) → n < 16 → EndsNothing (digit_glyph true n)
digit n small = record { quotation = grind arith; backslash = grind arith; line_feed = grind arith }

slash : EndsNothing 0x2F
slash = record { quotation = grind arith; backslash = grind arith; line_feed = grind arith }

itself : (b : ℕ) → (is_ascii_alphanumeric b || list_any (λ p. p == b) plain) ≡ true → EndsNothing b
itself b is = record { quotation = grind arith; backslash = grind arith; line_feed = grind arith }

encoded : (b : ℕ) → All EndsNothing (percent_encode_byte b)
unfolding percent_encode_byte
encoded b =
    All-cons EndsNothing 0x25 (digit_glyph true (b / 16 % 16) ∷ digit_glyph true (b % 16) ∷ []) percent
    (All-cons EndsNothing (digit_glyph true (b / 16 % 16)) (digit_glyph true (b % 16) ∷ []) (digit (b / 16 % 16) (omega arith))
    (All-cons EndsNothing (digit_glyph true (b % 16)) [] (digit (b % 16) (omega arith)) (All-nil EndsNothing)))

by_case : (t : Bool) (b : ℕ) → (t ≡ true → EndsNothing b) → All EndsNothing (cond t (b ∷ []) (percent_encode_byte b))
by_case true b is = All-cons EndsNothing b [] (is refl) (All-nil EndsNothing)
by_case false b is = encoded b

segment : (bytes : List ℕ) → All EndsNothing (flat_map escape bytes)
segment [] = All-nil EndsNothing
segment (b ∷ bytes) =
    All-append EndsNothing (escape b) (flat_map escape bytes) (by_case (is_ascii_alphanumeric b || list_any (λ p. p == b) plain) b (itself b)) (segment bytes)

segments : (prefix : List (List ℕ)) → All EndsNothing (flat_map segment_text prefix)
segments [] = All-nil EndsNothing
segments (s ∷ prefix) =
    All-append EndsNothing (segment_text s) (flat_map segment_text prefix) (All-cons EndsNothing 0x2F (flat_map escape s) slash (segment s)) (segments prefix)

pub path-ends_nothing : (prefix : List (List ℕ)) → All EndsNothing (path_text prefix)
path-ends_nothing [] = All-cons EndsNothing 0x2F [] slash (All-nil EndsNothing)
path-ends_nothing (s ∷ prefix) = segments (s ∷ prefix)
