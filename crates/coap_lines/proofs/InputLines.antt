-- The lines of an input: they are lines that it has, and it has no others.
use Rattle.std.proofs.Common.{◌≡◌, ◌≢◌, ℕ, zero, suc, ◌+◌, ◌≤◌, false, List, [], ◌∷◌, ◌++◌, length, Option, Some, None, refl, sym, ap, ◌∙◌, inl, inr, arith, append_assoc, length-append}
use Rattle.std.specs.List.{AllByRecursion}
use Rattle.coap_lines.specs.Lines.{AreLines, ended, lines_of}
use Rattle.coap_lines.specs.Texts.{cut, has}
use Rattle.coap_lines.proofs.Cuts.{cut-is, none-has}
use Rattle.coap_lines.proofs.NextLines.{lines_of-feed, lines_of-last}

-- the lines of lines that are each followed by a line feed are those lines
pub lines_of-ended : (lines : List (List ℕ)) → AllByRecursion (λ line. has 10 line ≡ false) lines → lines_of (ended lines) ≡ lines
lines_of-ended [] all = refl
lines_of-ended (line ∷ lines) all = rw append_assoc (lines_of-feed line (ended lines) all.0 ∙ ap (λ rest. line ∷ rest) (lines_of-ended lines all.1))

-- a text that isn't empty has bytes
some : (text : List ℕ) → text ≢ [] → 1 ≤ length text
some [] filled = absurd (filled refl)
some (b ∷ text) filled = omega arith

-- the same for lines of which the last lacks its line feed
lines_of-front : (front : List (List ℕ)) (last : List ℕ) → last ≢ [] → AllByRecursion (λ line. has 10 line ≡ false) (front ++ last ∷ []) → lines_of (ended front ++ last) ≡ front ++ last ∷ []
lines_of-front [] last filled all = lines_of-last last all.0 (some last filled)
lines_of-front (line ∷ front) last filled all =
    let moved : ended (line ∷ front) ++ last ≡ line ++ 10 ∷ (ended front ++ last) = append_assoc (line ++ 10 ∷ []) (ended front) last ∙ append_assoc line (10 ∷ []) (ended front ++ last) in
    rw moved (lines_of-feed line (ended front ++ last) all.0 ∙ ap (λ rest. line ∷ rest) (lines_of-front front last filled all.1))

-- an input has no other lines
pub lines_of-only : (input : List ℕ) (lines : List (List ℕ)) → AreLines input lines → lines ≡ lines_of input
lines_of-only input lines (all, inl whole) = rw whole (sym (lines_of-ended lines all))
lines_of-only input lines (all, inr (front, last, split, filled, whole)) = rw (whole, split) (sym (lines_of-front front last filled (rw split at all)))

-- one more line in front
more_lines : (input line rest : List ℕ) (lines : List (List ℕ)) → input ≡ line ++ 10 ∷ rest → has 10 line ≡ false → AreLines rest lines → AreLines input (line ∷ lines)
more_lines input line rest lines split clear (all, inl whole) =
    ((clear, all), inl (split ∙ ap (λ r. line ++ 10 ∷ r) whole ∙ sym (append_assoc line (10 ∷ []) (ended lines))))
more_lines input line rest lines split clear (all, inr (front, last, parts, filled, whole)) =
    ((clear, all), inr (line ∷ front, last, ap (λ p. line ∷ p) parts, filled, split ∙ ap (λ r. line ++ 10 ∷ r) whole ∙ sym (append_assoc (line ++ 10 ∷ []) (ended front) last ∙ append_assoc line (10 ∷ []) (ended front ++ last))))

-- the lines of an input of at most `most` bytes are lines that it has
lines_of-has : (most : ℕ) (input : List ℕ) → length input ≤ most → AreLines input (lines_of input)
lines_of-has most [] short = (tt, inl refl)
lines_of-has zero (b ∷ input) short = absurd (omega arith)
lines_of-has (suc most) (b ∷ input) short = go (cut 10 (b ∷ input)) refl (λ rest less. lines_of-has most rest less)
  where
    go : (p : Option (List ℕ × List ℕ)) → cut 10 (b ∷ input) ≡ p → ((rest : List ℕ) → length rest ≤ most → AreLines rest (lines_of rest)) → AreLines (b ∷ input) (lines_of (b ∷ input))
    go None is further =
        let clear = none-has 10 (b ∷ input) is in
        let filled : b ∷ input ≢ [] = λ same. let bad : suc (length input) ≡ 0 = ap length same in omega arith in
        rw (lines_of-last (b ∷ input) clear (omega arith)) ((clear, tt), inr ([], b ∷ input, refl, filled, refl))
    go (Some (line, rest)) is further =
        let parts = cut-is 10 (b ∷ input) line rest is in
        let count : length (b ∷ input) ≡ length line + length (10 ∷ rest) = ap length parts.0 ∙ length-append line (10 ∷ rest) in
        let less : length rest ≤ most = omega arith in
        let lines : lines_of (b ∷ input) ≡ line ∷ lines_of rest = ap lines_of parts.0 ∙ lines_of-feed line rest parts.1 in
        rw lines (more_lines (b ∷ input) line rest (lines_of rest) parts.0 parts.1 (further rest less))

-- the lines of an input are lines that it has
pub lines_of-lines : (input : List ℕ) → AreLines input (lines_of input)
lines_of-lines input = lines_of-has (length input) input (omega arith)
