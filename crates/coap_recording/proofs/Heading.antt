-- The header of a recording.
use Rattle.std.proofs.Common.{◌≡◌, ◌+◌, ◌-◌, ◌<◌, ◌≤◌, ◌^◌, ◌==◌, ◌||◌, cond, ℕ, Bool, true, false, List, [], ◌∷◌, ◌++◌, length, map, codes, Option, Some, None, Bor, Result, Err, refl, sym, ap, ◌∙◌, append_assoc, arith}
use Rattle.std.specs.Fmt.{decimal}
use Rattle.std.specs.List.{AllByRecursion, flat_map, list_any, slice_split}
use Rattle.std.proofs.lemmas.Bool.{eqb-true, false≢true, le-ltb, ne_eqb, or_parts}
use Rattle.std.proofs.lemmas.List.{append-nil, length-append}
use Rattle.std.proofs.lemmas.List.Folds.{list_any-append}
use Rattle.std.proofs.lemmas.List.Splits.{length-slice_split}
use Rattle.coap_lines.specs.Lines.{ended, is_skipped, is_too_long, lines_of, without_empty_end}
use Rattle.coap_lines.specs.Texts.{has}
use Rattle.coap_lines.proofs.InputLines.{lines_of-lines}
use Rattle.coap_lines.proofs.Numerals.{has-decimal}
use Rattle.coap_uri.specs.Uri.{parts_left}
use Rattle.coap_recording.specs.Replayable.{AreSkipped}
use Rattle.coap_recording.specs.declared.header.Start.{Start}
use Rattle.coap_recording.specs.Header.{byte_shown, config_line, config_text, feed_ended, first_line, header_lines, header_text, is_one_long, is_plain, line_before, since_line, start_shown, word_shown, words_shown}

-- what is made of elements that are mapped before
pub flat_map-map : {X Y : Type 0} (f : Y → List ℕ) (g : X → Y) (xs : List X) → flat_map f (map g xs) ≡ flat_map (λ x. f (g x)) xs
flat_map-map f g [] = refl
flat_map-map f g (x ∷ xs) = ap (λ (l : List ℕ). f (g x) ++ l) (flat_map-map f g xs)

-- the lines of what is left of a text, if anything is
abbrev pub left_lines : Option (List ℕ) → List (List ℕ)
left_lines None = []
left_lines (Some text) = lines_of text

-- a measure of what is left to split
abbrev pub left : Option (Bor (List ℕ)) → ℕ
left None = 0
left (Some text) = length text.now + 1

-- the lines of a text that is split at its first line feed
pub lines-split : (text line : List ℕ) (rest : Option (List ℕ)) → slice_split (λ b. b == 10) text ≡ line ∷ parts_left 10 rest → lines_of text ≡ line_before line rest ++ left_lines rest
lines-split text [] None split = ap without_empty_end split
lines-split text (b ∷ line) None split = ap without_empty_end split
lines-split text line (Some rest) split = ap without_empty_end split ∙ go _ line (slice_split (λ b. b == 10) rest) (length-slice_split (λ b. b == 10) rest)
  where
    go : (n : ℕ) (line : List ℕ) (parts : List (List ℕ)) → length parts ≡ n + 1 → without_empty_end (line ∷ parts) ≡ line ∷ without_empty_end parts
    go n line [] some = absurd (omega (arith, some))
    go n [] (part ∷ parts) some = refl
    go n (b ∷ line) (part ∷ parts) some = refl

-- the comments of lines, and then of others
text-more : (xs ys : List (List ℕ)) → config_text (xs ++ ys) ≡ config_text xs ++ config_text ys
text-more [] ys = refl
text-more (x ∷ xs) ys = ap (λ (l : List ℕ). (config_line x ++ 10 ∷ []) ++ l) (text-more xs ys) ∙ sym (append_assoc (config_line x ++ 10 ∷ []) (config_text xs) (config_text ys))

-- whether one of them is too long
long-more : (xs ys : List (List ℕ)) → is_one_long xs ≡ false → is_one_long (xs ++ ys) ≡ is_one_long ys
long-more [] ys short = refl
long-more (x ∷ xs) ys short = go (is_too_long (config_line x)) short (long-more xs ys)
  where
    go : (b : Bool) → (b || is_one_long xs) ≡ false → (is_one_long xs ≡ false → is_one_long (xs ++ ys) ≡ is_one_long ys) → (b || is_one_long (xs ++ ys)) ≡ is_one_long ys
    go true bad further = absurd cc
    go false short further = further short

-- one that is too long stays one with others behind it
long-first : (xs ys : List (List ℕ)) → is_one_long xs ≡ true → is_one_long (xs ++ ys) ≡ true
long-first [] ys long = absurd cc
long-first (x ∷ xs) ys long = go (is_too_long (config_line x)) long (long-first xs ys)
  where
    go : (b : Bool) → (b || is_one_long xs) ≡ true → (is_one_long xs ≡ true → is_one_long (xs ++ ys) ≡ true) → (b || is_one_long (xs ++ ys)) ≡ true
    go true is further = refl
    go false is further = further is

-- What was added so far, with the comments of the lines that are left, is what is to be added, and
-- none was too long so far.
pub record IsAdded (start : List ℕ) (config : List ℕ) (out : List ℕ) (rest : Option (List ℕ)) : Type 0 where
  pub text : out ++ config_text (left_lines rest) ≡ start ++ config_text (lines_of config)
  pub short : is_one_long (lines_of config) ≡ is_one_long (left_lines rest)

-- one more line was added
pub one-more : (start config out out' text line : List ℕ) (rest : Option (List ℕ)) → IsAdded start config out (Some text) → slice_split (λ b. b == 10) text ≡ line ∷ parts_left 10 rest
    → out' ≡ out ++ config_text (line_before line rest) → is_one_long (line_before line rest) ≡ false → IsAdded start config out' rest
one-more start config out out' text line rest is split added short =
    let lines = lines-split text line rest split in
    let before = line_before line rest in
    let after = left_lines rest in
    record {
      text = ap (λ (l : List ℕ). l ++ config_text after) added ∙ append_assoc out (config_text before) (config_text after)
          ∙ ap (λ (l : List ℕ). out ++ l) (sym (ap config_text lines ∙ text-more before after)) ∙ is.text;
      short = is.short ∙ ap is_one_long lines ∙ long-more before after short;
    }

-- the first line, by its parts
pub first-made : (out a b c d version : List ℕ) (start : Start) (words : List (List ℕ)) → a ≡ out ++ codes "# coap-proxyd " → b ≡ a ++ word_shown version → c ≡ b ++ start_shown start → d ≡ c ++ words_shown words
    → d ≡ out ++ first_line version start words
unfolding first_line
first-made out a b c d version start words one two three four =
    let head = codes "# coap-proxyd " in
    let word = word_shown version in
    let more = start_shown start in
    four ∙ ap (λ (l : List ℕ). l ++ words_shown words) (three ∙ ap (λ (l : List ℕ). l ++ more) (two ∙ ap (λ (l : List ℕ). l ++ word) one))
    ∙ ap (λ (l : List ℕ). l ++ words_shown words) (ap (λ (l : List ℕ). l ++ more) (append_assoc out head word) ∙ append_assoc out (head ++ word) more)
    ∙ append_assoc out (head ++ word ++ more) (words_shown words)

-- ---- what a replay skips

-- a text contains no line feed if none of what is made of its bytes does
one-of : (f : ℕ → List ℕ) → ((b : ℕ) → has 10 (f b) ≡ false) → (bytes : List ℕ) → has 10 (flat_map f bytes) ≡ false
one-of f none [] = refl
one-of f none (b ∷ bytes) = rw (list_any-append, none b, one-of f none bytes) refl

-- nor does what a byte is shown as
one-byte : (b : ℕ) → has 10 (byte_shown b) ≡ false
one-byte b = go (is_plain b) refl (b == 10) refl
  where
    go : (plain : Bool) → is_plain b ≡ plain → (feed : Bool) → (b == 10) ≡ feed → has 10 (cond plain (b ∷ []) (cond feed (codes "\"$(printf '\\n%s' ") (0x5C ∷ b ∷ []))) ≡ false
    go true plain true feed = absurd (false≢true (rw (eqb-true b 10 feed) at plain))
    go true plain false feed = rw feed refl
    go false plain true feed = refl
    go false plain false feed = rw feed refl

-- nor what ends a line feed
one-end : (b : ℕ) → has 10 (feed_ended b) ≡ false
one-end b = go (b == 10)
  where
    go : (feed : Bool) → has 10 (cond feed (codes ")\"") []) ≡ false
    go true = refl
    go false = refl

-- nor a word
one-word : (word : List ℕ) → has 10 (word_shown word) ≡ false
one-word [] = refl
one-word (b ∷ word) = rw (list_any-append, one-of byte_shown one-byte (b ∷ word), one-of feed_ended one-end (b ∷ word)) refl

-- nor words
one-words : (words : List (List ℕ)) → has 10 (words_shown words) ≡ false
one-words [] = refl
one-words (word ∷ words) = rw (list_any-append, one-word word, one-words words) refl

-- nor a number
one-number : (n : ℕ) → n < 2 ^ 64 → has 10 (decimal n) ≡ false
one-number = has-decimal 10 (λ x low high. ne_eqb x 10 (λ same. omega arith))

-- nor does how it starts
one-start : (start : Start) → start.first_id < 2 ^ 64 → start.salt < 2 ^ 64 → has 10 (start_shown start) ≡ false
unfolding start_shown
one-start start id salt =
    let first = one-number start.first_id id in
    let second = one-number start.salt salt in
    rw (list_any-append, list_any-append, list_any-append, first, second) refl

-- nor does the whole first line
one-first : (version : List ℕ) (start : Start) (words : List (List ℕ)) → start.first_id < 2 ^ 64 → start.salt < 2 ^ 64 → has 10 (first_line version start words) ≡ false
unfolding first_line
one-first version start words id salt =
    let name = one-word version in
    let begun = one-start start id salt in
    let rest = one-words words in
    rw (list_any-append, list_any-append, list_any-append, name, begun, rest) refl

-- the first line is a comment
skipped-first : (version : List ℕ) (start : Start) (words : List (List ℕ)) → is_skipped (first_line version start words) ≡ true
unfolding first_line
skipped-first version start words = refl

-- so are the others
skipped-each : (lines : List (List ℕ)) → AllByRecursion (λ line. is_skipped line ≡ true) (map config_line lines)
skipped-each [] = tt
skipped-each (line ∷ lines) = (refl, skipped-each lines)

-- the others have no line feed either
one-each : (lines : List (List ℕ)) → AllByRecursion (λ line. has 10 line ≡ false) lines → AllByRecursion (λ line. has 10 line ≡ false) (map config_line lines)
one-each [] all = tt
one-each (line ∷ lines) all = (all.0, one-each lines all.1)

-- if none is too long, each is short enough
short-each : (lines : List (List ℕ)) → is_one_long lines ≡ false → AllByRecursion (λ line. is_too_long line ≡ false) (map config_line lines)
short-each [] none = tt
short-each (line ∷ lines) none =
    let parts = or_parts (is_too_long (config_line line)) (is_one_long lines) none in
    (parts.0, short-each lines parts.1)

-- the header is skipped
pub skips : (version : List ℕ) (start : Start) (words : List (List ℕ)) (config text : List ℕ) → start.first_id < 2 ^ 64 → start.salt < 2 ^ 64
    → text ≡ header_text version start words config → is_too_long (first_line version start words) ≡ false → is_one_long (lines_of config) ≡ false → AreSkipped (header_lines version start words config) text
skips version start words config text id salt whole first rest = record {
  whole = whole;
  one = (one-first version start words id salt, one-each (lines_of config) (lines_of-lines config).0);
  short = (first, short-each (lines_of config) rest);
  skipped = (skipped-first version start words, skipped-each (lines_of config));
}

-- whether one of its lines is too long
pub long-any : (lines : List (List ℕ)) → list_any is_too_long (map config_line lines) ≡ is_one_long lines
long-any [] = refl
long-any (line ∷ lines) = ap (λ (b : Bool). is_too_long (config_line line) || b) (long-any lines)

-- so the header has a line that is too long if a line of the configuration is
pub long-rest : (version : List ℕ) (start : Start) (words : List (List ℕ)) (config : List ℕ) → is_one_long (lines_of config) ≡ true → list_any is_too_long (header_lines version start words config) ≡ true
long-rest version start words config long = go (is_too_long (first_line version start words)) (long-any (lines_of config) ∙ long)
  where
    go : (first : Bool) → list_any is_too_long (map config_line (lines_of config)) ≡ true → (first || list_any is_too_long (map config_line (lines_of config))) ≡ true
    go true is = refl
    go false is = is

-- an error, whatever a success would give
pub err-as : (A B E : Type 0) (e f : E) → ◌≡◌ {A = Result A E} (Err e) (Err f) → ◌≡◌ {A = Result B E} (Err e) (Err f)
err-as A B E e f same = let inside : e ≡ f = cc in ap Err inside

-- ---- one more comment

-- the line that says since when is recorded has no line feed, and is a comment
one-since : (moment : List ℕ) → has 10 (since_line moment) ≡ false
one-since moment = let word = one-word moment in rw (list_any-append, word) refl

-- what holds of each of some lines and of one more holds of them all
all-more : (P : List ℕ → Type 0) (lines : List (List ℕ)) (line : List ℕ) → AllByRecursion P lines → P line → AllByRecursion P (lines ++ line ∷ [])
all-more P [] line all one = (one, tt)
all-more P (l ∷ lines) line all one = (all.0, all-more P lines line all.1 one)

-- lines with one more behind them
ended-more : (lines : List (List ℕ)) (line : List ℕ) → ended (lines ++ line ∷ []) ≡ ended lines ++ ended (line ∷ [])
ended-more [] line = refl
ended-more (l ∷ lines) line = rw (ended-more lines line) (sym (append_assoc (l ++ 10 ∷ []) _ _))

-- that line, by its parts
pub since-made : (out a b d moment : List ℕ) → a ≡ out ++ codes "# recorded since " → b ≡ a ++ word_shown moment → d ≡ b ++ 10 ∷ [] → d ≡ out ++ ended (since_line moment ∷ [])
since-made out a b d moment one two three =
    let head = codes "# recorded since " in
    let word = word_shown moment in
    three ∙ ap (λ (l : List ℕ). l ++ 10 ∷ []) (two ∙ ap (λ (l : List ℕ). l ++ word) one ∙ append_assoc out head word)
    ∙ append_assoc out (head ++ word) (10 ∷ []) ∙ ap (λ (l : List ℕ). out ++ l) (sym (append-nil ((head ++ word) ++ 10 ∷ [])))

-- that line isn't too long if no more was added
pub since-short : (out a b moment : List ℕ) (most begin : ℕ) → a ≡ out ++ codes "# recorded since " → b ≡ a ++ word_shown moment → most ≡ length b → begin ≡ length out → most - begin ≤ 16384 → is_too_long (since_line moment) ≡ false
since-short out a b moment most begin one two all before few =
    let line = since_line moment in
    let same : b ≡ out ++ line = two ∙ ap (λ (l : List ℕ). l ++ word_shown moment) one ∙ append_assoc out (codes "# recorded since ") (word_shown moment) in
    let sum : length b ≡ length out + length line = ap length same ∙ length-append out line in
    le-ltb 16384 (length line) (omega arith)

-- lines that are skipped, and that one
pub skips-since : (lines : List (List ℕ)) (old new moment : List ℕ) → AreSkipped lines old → new ≡ old ++ ended (since_line moment ∷ []) → is_too_long (since_line moment) ≡ false → AreSkipped (lines ++ since_line moment ∷ []) new
skips-since lines old new moment are is short = record {
  whole = is ∙ ap (λ (l : List ℕ). l ++ ended (since_line moment ∷ [])) are.whole ∙ sym (ended-more lines (since_line moment));
  one = all-more (λ line. has 10 line ≡ false) lines (since_line moment) are.one (one-since moment);
  short = all-more (λ line. is_too_long line ≡ false) lines (since_line moment) are.short short;
  skipped = all-more (λ line. is_skipped line ≡ true) lines (since_line moment) are.skipped refl;
}
