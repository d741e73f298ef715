-- Lines of an input, and lines of an output.
use Rattle.std.specs.Prelude.{◌≡◌, ◌≢◌, ℕ, ◌==◌, ◌⊎◌, nat_lt, Bool, false, true, List, [], ◌∷◌, ◌++◌, length, codes, Option, Some, None}
use Rattle.std.specs.Fmt.{decimal}
use Rattle.std.specs.Io.KnownBytes.{Consumes}
use Rattle.std.specs.List.{AllByRecursion, flat_map, slice_split}
use Rattle.coap_endpoint.specs.declared.endpoint.Endpoint.{Endpoint}
use Rattle.coap_lines.specs.declared.reading.input.Next.{Next}
use Rattle.coap_lines.specs.declared.reading.input.Next.TheVariants.{Line, TooLong, End}
use Rattle.coap_lines.specs.Texts.{has, line_feed, number_sign}
use Rattle.coap_lines.specs.Endpoints.{endpoint_text}
use Rattle.coap_lines.specs.Datagrams.{hex_text}

-- lines, each followed by its line feed
abbrev pub ended : List (List ℕ) → List ℕ
ended lines = flat_map (λ line. line ++ line_feed ∷ []) lines

-- an input is these lines, of which the last isn't empty and lacks its line feed
abbrev pub IsCutShort : List ℕ → List (List ℕ) → Type 0
IsCutShort input lines = (front : List (List ℕ)) × (last : List ℕ)
    × (lines ≡ front ++ last ∷ []) × (last ≢ []) × (input ≡ ended front ++ last)

-- An input has these lines: none contains a line feed, and each is followed by one, except that the
-- last may lack it if it isn't empty.
abbrev pub AreLines : List ℕ → List (List ℕ) → Type 0
AreLines input lines = AllByRecursion (λ line. has line_feed line ≡ false) lines
    × ((input ≡ ended lines) ⊎ IsCutShort input lines)

-- the parts without the last one, if that is empty
abbrev pub without_empty_end : List (List ℕ) → List (List ℕ)
without_empty_end [] = []
without_empty_end ([] ∷ []) = []
without_empty_end (part ∷ parts) = part ∷ without_empty_end parts

-- the lines of an input: what is between line feeds, and what follows the last of them, if that
-- isn't empty
abbrev pub lines_of : List ℕ → List (List ℕ)
lines_of input = without_empty_end (slice_split (λ b. b == line_feed) input)

-- a line that is too long has more than 16,384 bytes, its line feed not counted
abbrev pub is_too_long : List ℕ → Bool
is_too_long line = nat_lt 16384 (length line)

-- a line that is skipped is empty, or a comment
abbrev pub is_skipped : List ℕ → Bool
is_skipped [] = true
is_skipped (b ∷ line) = b == number_sign

-- an input begins with a line, which is followed by its line feed, or by nothing at all
abbrev pub BeginsWith : List ℕ → List ℕ → List ℕ → Type 0
BeginsWith input line rest =
    ((has line_feed line ≡ false) × (input ≡ line ++ line_feed ∷ rest))
    ⊎ ((input ≡ line) × (rest ≡ []))

-- the first line of an input, which isn't too long, was read
abbrev pub IsLine : List ℕ → List ℕ → List ℕ → Type 0
IsLine input rest line = (lines_of input ≡ line ∷ lines_of rest)
    × (is_too_long line ≡ false) × BeginsWith input line rest

-- the first line of an input is too long, and what was taken of it is what is held
abbrev pub IsTooLong : List ℕ → List ℕ → List ℕ → Type 0
IsTooLong input rest line = (long : List ℕ) × (more : List (List ℕ))
    × (lines_of input ≡ long ∷ more) × (is_too_long long ≡ true) × (input ≡ line ++ rest)

-- what comes next in an input, and what is left of it: a line, one that is too long, or nothing
abbrev pub IsNext : List ℕ → Option (List ℕ) → List ℕ → Next → Type 0
IsNext input None line next = ⊥
IsNext input (Some rest) line Line = IsLine input rest line
IsNext input (Some rest) line TooLong = IsTooLong input rest line
IsNext input (Some rest) line End = lines_of input ≡ []

-- part of the first line of what a reader had left was taken, perhaps nothing, but not its line
-- feed
abbrev pub IsBegun : Option (List ℕ) → Option (List ℕ) → Type 0
IsBegun old new = (part : List ℕ) × (has line_feed part ≡ false) × Consumes old new part

-- the line of a datagram that is sent
unfoldable pub line_of : ℕ → Endpoint → List ℕ → List ℕ
line_of now to bytes =
    decimal now ++ codes " " ++ endpoint_text to ++ codes " " ++ hex_text bytes ++ line_feed ∷ []
