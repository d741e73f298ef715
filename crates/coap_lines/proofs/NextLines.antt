-- Pieces of an input: what reading them takes, and which lines they are.
use Rattle.std.proofs.Common.{◌≡◌, ◌==◌, ℕ, ◌+◌, ◌<◌, ◌≤◌, true, false, List, [], ◌∷◌, ◌++◌, length, take, Option, Some, None, Result, Ok, Err, refl, sym, ap, ◌∙◌, arith, inl, inr, append_assoc, append-nil, length-append, lt-ltb}
use Rattle.std.specs.Io.KnownBytes.{Consumes, IsAtEnd, Keeps}
use Rattle.std.specs.List.{slice_split}
use Rattle.std.specs.Option.{IfSome}
use Rattle.std.specs.Result.{OnErr}
use Rattle.std.proofs.lemmas.Bool.{le-ltb}
use Rattle.std.proofs.lemmas.List.{take_at}
use Rattle.std.proofs.lemmas.List.Folds.{list_any-append}
use Rattle.std.proofs.lemmas.List.Splits.{length-slice_split, slice_split_at, slice_split_none}
use Rattle.coap_lines.specs.declared.reading.input.Next.TheVariants.{Line, TooLong}
use Rattle.coap_lines.specs.Lines.{IsBegun, IsNext, is_too_long, lines_of, without_empty_end}
use Rattle.coap_lines.specs.Texts.{cut, has}
use Rattle.coap_lines.proofs.Cuts.{All-others, cut-is, none-has}

-- the part before a line feed
pub before_feed : (bytes line rest : List ℕ) → cut 10 bytes ≡ Some (line, rest) → (has 10 (take (length line) bytes) ≡ false) × (length line < length bytes) × (take (length line + 1) bytes ≡ take (length line) bytes ++ 10 ∷ [])
before_feed bytes line rest found =
    let is = cut-is 10 bytes line rest found in
    let front : take (length line) (line ++ 10 ∷ rest) ≡ line = take_at line (10 ∷ rest) (length line) refl in
    let more : take (length line + 1) ((line ++ 10 ∷ []) ++ rest) ≡ line ++ 10 ∷ [] = take_at (line ++ 10 ∷ []) rest (length line + 1) (length-append line (10 ∷ [])) in
    let moved : take (length line + 1) (line ++ 10 ∷ rest) ≡ line ++ 10 ∷ [] = rw append_assoc at more in
    rw (is.0, front) (is.1, omega (arith, length-append line (10 ∷ rest)), moved)

-- if the reader failed, the line so far was taken, and no more
pub begun : {A E : Type 0} (old mid new : Option (List ℕ)) (line : List ℕ) (result : Result A E) → has 10 line ≡ false → Consumes old mid line → Keeps mid new → OnErr result (IsBegun old new)
begun old mid new line (Ok x) none taken keeps = tt
begun None mid new line (Err e) none taken keeps = (line, none, tt)
begun (Some xs) None new line (Err e) none taken keeps = absurd taken
begun (Some xs) (Some ys) None line (Err e) none taken keeps = absurd keeps
begun (Some xs) (Some ys) (Some zs) line (Err e) none taken keeps = (line, none, rw keeps taken)

-- an input that begins with a line
pub lines_of-feed : (line rest : List ℕ) → has 10 line ≡ false → lines_of (line ++ 10 ∷ rest) ≡ line ∷ lines_of rest
lines_of-feed line rest none =
    ap without_empty_end (slice_split_at (λ b. b == 10) line 10 rest (All-others 10 line none) refl)
    ∙ go line (slice_split (λ b. b == 10) rest) (omega (arith, length-slice_split (λ b. b == 10) rest))
  where
    go : (line : List ℕ) (parts : List (List ℕ)) → 0 < length parts → without_empty_end (line ∷ parts) ≡ line ∷ without_empty_end parts
    go line [] some = absurd (omega arith)
    go [] (part ∷ parts) some = refl
    go (b ∷ line) (part ∷ parts) some = refl

-- an input that is a line without a line feed
pub lines_of-last : (line : List ℕ) → has 10 line ≡ false → 0 < length line → lines_of line ≡ line ∷ []
lines_of-last [] none some = absurd (omega arith)
lines_of-last (b ∷ line) none some = ap without_empty_end (slice_split_none (λ x. x == 10) (b ∷ line) (All-others 10 (b ∷ line) none))

-- a line that was read whole
pub next-feed : (old new : Option (List ℕ)) (line : List ℕ) → Consumes old new (line ++ 10 ∷ []) → has 10 line ≡ false → length line ≤ 16384 → IfSome old (λ input. IsNext input new line Line)
next-feed None new line taken none short = tt
next-feed (Some xs) None line taken none short = absurd taken
next-feed (Some xs) (Some rest) line taken none short =
    let split : xs ≡ line ++ 10 ∷ rest = rw append_assoc at taken in
    (ap lines_of split ∙ lines_of-feed line rest none, le-ltb 16384 (length line) short, inl (none, split))

-- the last line
pub next-last : (old new : Option (List ℕ)) (line : List ℕ) → Consumes old new line → IfSome old (λ _. IsAtEnd new) → has 10 line ≡ false → length line ≤ 16384 → 0 < length line → IfSome old (λ input. IsNext input new line Line)
next-last None new line taken end none short some = tt
next-last (Some xs) None line taken end none short some = absurd taken
next-last (Some xs) (Some rest) line taken end none short some =
    let whole : xs ≡ line = rw (end, append-nil) at taken in
    let lines : lines_of xs ≡ line ∷ lines_of rest = rw (whole, end) (lines_of-last line none some) in
    (lines, le-ltb 16384 (length line) short, inr (whole, end))

-- a line that is too long
pub next-full : (old new : Option (List ℕ)) (line : List ℕ) → Consumes old new line → has 10 line ≡ false → length line ≡ 16385 → IfSome old (λ input. IsNext input new line TooLong)
next-full None new line taken none long = tt
next-full (Some xs) None line taken none long = absurd taken
next-full (Some xs) (Some rest) line taken none long = rw taken (go (cut 10 rest) refl)
  where
    go : (parts : Option (List ℕ × List ℕ)) → cut 10 rest ≡ parts → (l : List ℕ) × (more : List (List ℕ)) × (lines_of (line ++ rest) ≡ l ∷ more) × (is_too_long l ≡ true) × (line ++ rest ≡ line ++ rest)
    go None is =
        let without : has 10 (line ++ rest) ≡ false = rw (list_any-append, none, none-has 10 rest is) refl in
        let count = length-append line rest in
        (line ++ rest, [], lines_of-last (line ++ rest) without (omega arith), lt-ltb 16384 (length (line ++ rest)) (omega arith), refl)
    go (Some (front, after)) is =
        let parts = cut-is 10 rest front after is in
        let without : has 10 (line ++ front) ≡ false = rw (list_any-append, none, parts.1) refl in
        let count = length-append line front in
        let split : line ++ rest ≡ (line ++ front) ++ 10 ∷ after = ap (λ r. line ++ r) parts.0 ∙ sym (append_assoc line front (10 ∷ after)) in
        (line ++ front, lines_of after, rw split (lines_of-feed (line ++ front) after without), lt-ltb 16384 (length (line ++ front)) (omega arith), refl)
