-- Inputs that are cut between two lines: the lines of both parts are the lines of the whole.
use Rattle.std.proofs.Common.{◌≡◌, ◌⊎◌, List, [], ◌∷◌, ◌++◌, ℕ, false, length, sym, ap, ◌∙◌, inl, inr, arith, append_assoc, append-nil}
use Rattle.coap_lines.specs.Lines.{IsLine, lines_of}
use Rattle.coap_lines.specs.Texts.{has}
use Rattle.coap_lines.proofs.NextLines.{lines_of-feed}

-- the last line of what was read has its line feed, or nothing is left
abbrev pub IsCutBetween : List ℕ → List ℕ → Type 0
IsCutBetween done rest = ((more : List ℕ) → lines_of (done ++ more) ≡ lines_of done ++ lines_of more) ⊎ (rest ≡ [])

-- the lines of an input that is cut between two lines
pub lines_of-cut : (done rest : List ℕ) → IsCutBetween done rest → lines_of (done ++ rest) ≡ lines_of done ++ lines_of rest
lines_of-cut done rest (inl apart) = apart rest
lines_of-cut done rest (inr none) = rw none (ap lines_of (append-nil done) ∙ sym (append-nil (lines_of done)))

-- an input is cut one line further on
abbrev pub IsFurther : List ℕ → List ℕ → List ℕ → List ℕ → Type 0
IsFurther done rest rest' line = (taken : List ℕ) × (rest ≡ taken ++ rest') × (lines_of (done ++ taken) ≡ lines_of done ++ line ∷ []) × IsCutBetween (done ++ taken) rest'

-- a line with its line feed is read
with_feed : (done rest rest' line : List ℕ) → ((more : List ℕ) → lines_of (done ++ more) ≡ lines_of done ++ lines_of more) → has 10 line ≡ false → rest ≡ line ++ 10 ∷ rest' → IsFurther done rest rest' line
with_feed done rest rest' line apart clear split =
    (line ++ 10 ∷ [], split ∙ sym (append_assoc line (10 ∷ []) rest'), whole, inl (λ more. longer more ∙ sym (append_assoc (lines_of done) (line ∷ []) (lines_of more)) ∙ ap (λ (l : List (List ℕ)). l ++ lines_of more) (sym whole)))
  where
    longer : (more : List ℕ) → lines_of ((done ++ (line ++ 10 ∷ [])) ++ more) ≡ lines_of done ++ line ∷ lines_of more
    longer more =
        ap lines_of (append_assoc done (line ++ 10 ∷ []) more ∙ ap (λ (l : List ℕ). done ++ l) (append_assoc line (10 ∷ []) more))
        ∙ apart (line ++ 10 ∷ more)
        ∙ ap (λ (l : List (List ℕ)). lines_of done ++ l) (lines_of-feed line more clear)

    whole : lines_of (done ++ (line ++ 10 ∷ [])) ≡ lines_of done ++ line ∷ []
    whole = ap lines_of (sym (append-nil (done ++ (line ++ 10 ∷ [])))) ∙ longer []

-- one more line is read
pub further : (done rest rest' line : List ℕ) → IsCutBetween done rest → IsLine rest rest' line → IsFurther done rest rest' line
further done rest rest' line (inr none) (lines, short, begins) =
    let empty : [] ≡ line ∷ lines_of rest' = rw none at lines in
    let count = ap length empty in absurd (omega (arith, count))
further done rest rest' line (inl apart) (lines, short, inl (clear, split)) = with_feed done rest rest' line apart clear split
further done rest rest' line (inl apart) (lines, short, inr (same, none)) =
    let alone : lines_of line ≡ line ∷ [] = rw (same, none) at lines in
    (line, same ∙ sym (ap (λ (l : List ℕ). line ++ l) none ∙ append-nil line), apart line ∙ ap (λ (l : List (List ℕ)). lines_of done ++ l) alone, inr none)
