-- How a recording begins: comments that say how its run was started.
use Rattle.std.specs.Prelude.{ℕ, ◌==◌, ◌&&◌, ◌||◌, nat_le, Bool, List, [], ◌∷◌, ◌++◌, map, codes, Option, Some, None, if◌then◌else◌}
use Rattle.std.specs.Fmt.{decimal}
use Rattle.std.specs.List.{flat_map, list_any}
use Rattle.coap_lines.specs.Lines.{ended, is_too_long, lines_of}
use Rattle.coap_lines.specs.Texts.{line_feed}
use Rattle.coap_recording.specs.declared.header.Start.{Start}

abbrev pub is_between : ℕ → ℕ → ℕ → Bool
is_between least most b = nat_le least b && nat_le b most

-- A byte that stands for itself in a word of a shell: a letter, a digit, one of `%+,-./:=@_`, or
-- part of a character that isn't ASCII.
abbrev pub is_plain : ℕ → Bool
is_plain b = is_between 0x2B 0x3A b
    || (is_between 0x40 0x5A b
    || (is_between 0x61 0x7A b || (nat_le 0x80 b || (b == 0x25 || (b == 0x3D || b == 0x5F)))))

-- A byte of a word as a shell reads it: after a backslash, but a line feed as `printf` writes it,
-- with all that follows it in the word.
abbrev pub byte_shown : ℕ → List ℕ
byte_shown b =
    if is_plain b then b ∷ []
    else if b == line_feed then codes "\"$(printf '\\n%s' "
    else 0x5C ∷ b ∷ []

-- what ends that behind the word
abbrev pub feed_ended : ℕ → List ℕ
feed_ended b = if b == line_feed then codes ")\"" else []

-- a word as a shell reads it; line feeds at its end are lost
abbrev pub word_shown : List ℕ → List ℕ
word_shown [] = codes "''"
word_shown (b ∷ word) = flat_map byte_shown (b ∷ word) ++ flat_map feed_ended (b ∷ word)

-- words, each after a space
abbrev pub words_shown : List (List ℕ) → List ℕ
words_shown words = flat_map (λ word. codes " " ++ word_shown word) words

-- the words that say how a run was started
unfoldable pub start_shown : Start → List ℕ
start_shown start =
    codes " --replay --id " ++ decimal start.first_id ++ codes " --salt " ++ decimal start.salt

-- the program with its version, and the words that make a replay the same run
unfoldable pub first_line : List ℕ → Start → List (List ℕ) → List ℕ
first_line version start words =
    codes "# coap-proxyd " ++ word_shown version ++ start_shown start ++ words_shown words

-- a line of the configuration
abbrev pub config_line : List ℕ → List ℕ
config_line line = codes "# config: " ++ line

-- what is before a line feed is a line, and so is what follows the last one, if it isn't empty
abbrev pub line_before : List ℕ → Option (List ℕ) → List (List ℕ)
line_before line (Some rest) = line ∷ []
line_before [] None = []
line_before (b ∷ line) None = (b ∷ line) ∷ []

-- the comments that are made of lines
abbrev pub config_text : List (List ℕ) → List ℕ
config_text lines = ended (map config_line lines)

-- whether one of these comments is too long
abbrev pub is_one_long : List (List ℕ) → Bool
is_one_long lines = list_any (λ line. is_too_long (config_line line)) lines

abbrev pub header_lines : List ℕ → Start → List (List ℕ) → List ℕ → List (List ℕ)
header_lines version start words config =
    first_line version start words ∷ map config_line (lines_of config)

abbrev pub header_text : List ℕ → Start → List (List ℕ) → List ℕ → List ℕ
header_text version start words config = ended (header_lines version start words config)

-- the comment that says since when is recorded
abbrev pub since_line : List ℕ → List ℕ
since_line date = codes "# recorded since " ++ word_shown date
