-- Groups of an IPv6 address: what is read.
use Rattle.std.proofs.Common.{◌≡◌, ◌==◌, ◌≢◌, ℕ, suc, ◌^◌, ◌<◌, ◌≤◌, Bool, true, false, ◌&&◌, List, [], ◌∷◌, ◌++◌, length, map, get_or, Option, Some, None, option_map, Ok, Err, refl, sym, ap, ◌∙◌, arith, append_assoc, ltb, leb, cond, lt-ltb, le-leb, lit≤, eq-eqb, length-append}
use Rattle.std.specs.Char.{digit_value, is_digit}
use Rattle.std.specs.List.{AllZip, join_with_byte, list_all, slice_split}
use Rattle.std.specs.Net.Grammar.{IsGroup}
use Rattle.std.specs.Str.{IsUtf8}
use Rattle.std.specs.Str.Parse.{AllDigits, ParsesUnsigned, digits_value}
use Rattle.std.proofs.lemmas.Bool.{and_parts, eqb-true, leb-true, ltb-true, ne_eqb}
use Rattle.std.proofs.lemmas.Bool.Decides.{nat_tests}
use Rattle.std.proofs.lemmas.Int.Digits.{digits_value-lt}
use Rattle.std.proofs.lemmas.List.{length-map}
use Rattle.std.proofs.lemmas.List.Folds.{list_any-append}
use Rattle.std.proofs.lemmas.List.Splits.{join_with_byte-slice_split, length-slice_split, slice_split_at, slice_split_none}
use Rattle.std.proofs.lemmas.Option.{none-some}
use Rattle.std.proofs.lemmas.Str.Parse.{without_leading_plus_none}
use Rattle.std.proofs.Math.Bool.{and-false}
use Rattle.std.proofs.Math.Nat.{pow-le-pow_right}
use Rattle.coap_message.specs.Reading.{◌>>=◌}
use Rattle.coap_uri.proofs.Texts.{passing-utf8}
use Rattle.coap_target.specs.RouteTexts.{all_of}
use Rattle.coap_lines.specs.Endpoints.{AreGroups, if_eight, segments_read}
use Rattle.coap_lines.specs.Numbers.{group_of}
use Rattle.coap_lines.specs.Texts.{colon, has}
use Rattle.coap_lines.proofs.Cuts.{All-others}

-- whether a text is at most four hexadecimal digits
abbrev pub are_few : List ℕ → Bool
are_few text = leb (length text) 4 && list_all (λ b. is_digit b 16) text

-- a hexadecimal digit is ASCII
digit-ascii : (b : ℕ) → is_digit b 16 ≡ true → b < 128
digit-ascii b is = grind (arith, nat_tests)

-- the test implies the standard library's definition
AllDigits-test : (text : List ℕ) → list_all (λ b. is_digit b 16) text ≡ true → AllDigits 16 text
AllDigits-test [] all = tt
AllDigits-test (b ∷ text) all =
    let parts = and_parts (is_digit b 16) (list_all (λ b. is_digit b 16) text) all in
    (ltb-true (digit_value b) 16 parts.0, AllDigits-test text parts.1)

-- any other text is no group
pub others-none : (text : List ℕ) → are_few text ≡ false → group_of text ≡ None
unfolding group_of
others-none text other = rw (other, and-false (ltb 0 (length text))) refl

-- digits are valid UTF-8
pub digits-utf8 : (text : List ℕ) → are_few text ≡ true → ¬ (IsUtf8 text) → group_of text ≡ None
digits-utf8 text few never =
    let parts = and_parts (leb (length text) 4) (list_all (λ b. is_digit b 16) text) few in
    absurd (never (passing-utf8 (λ b. is_digit b 16) digit-ascii text parts.1))

-- digits don't begin with a plus
no_plus : (text : List ℕ) → AllDigits 16 text → get_or text 0 0 ≢ 43
no_plus [] all is = omega arith
no_plus (b ∷ text) all is = let small : digit_value 43 < 16 = rw is at all.0 in omega arith

-- the number that the standard library parsed is the group's
pub group-some : (text : List ℕ) (n : ℕ) → are_few text ≡ true → ParsesUnsigned {E = ℕ} 16 16 text (Ok n) → group_of text ≡ Some n
unfolding group_of
group-some text n few reads =
    let parts = and_parts (leb (length text) 4) (list_all (λ b. is_digit b 16) text) few in
    let plain = without_leading_plus_none text (no_plus text (AllDigits-test text parts.1)) in
    let read = rw plain at reads in
    let some : ltb 0 (length text) ≡ true = lt-ltb 0 (length text) read.0.0.0 in
    rw (some, few, read.1) refl

-- a text of few digits that it can't parse is empty
pub group-none : (text : List ℕ) → are_few text ≡ true → ParsesUnsigned {E = ℕ} 16 16 text (Err 0) → group_of text ≡ None
unfolding group_of
group-none [] few reads = refl
group-none (b ∷ text) few reads =
    let parts = and_parts (leb (length (b ∷ text)) 4) (list_all (λ b. is_digit b 16) (b ∷ text)) few in
    let all = AllDigits-test (b ∷ text) parts.1 in
    let plain = without_leading_plus_none (b ∷ text) (no_plus (b ∷ text) all) in
    let never = rw plain at reads in
    let short = leb-true (length (b ∷ text)) 4 parts.0 in
    let below = digits_value-lt 16 (b ∷ text) all in
    let most : 16 ^ length (b ∷ text) ≤ 16 ^ 4 = pow-le-pow_right {n = 16} (omega arith) short in
    absurd (never ((omega arith, all), omega (arith, below, most)))

-- the groups after one that is read, appended to those before it
pub step : (front : List ℕ) (parts : List (List ℕ)) (group : List ℕ) (n : ℕ) → group_of group ≡ Some n → option_map (λ more. front ++ more) (all_of (map group_of (group ∷ parts))) ≡ option_map (λ more. (front ++ n ∷ []) ++ more) (all_of (map group_of parts))
step front parts group n reads = rw reads (go (all_of (map group_of parts)))
  where
    go : (more : Option (List ℕ)) → option_map (λ m. front ++ m) (option_map (λ m. n ∷ m) more) ≡ option_map (λ m. (front ++ n ∷ []) ++ m) more
    go None = refl
    go (Some m) = ap Some (sym (append_assoc front (n ∷ []) m))

-- a group that can't be read
pub unread : (front : List ℕ) (parts : List (List ℕ)) (group : List ℕ) → group_of group ≡ None → option_map (λ more. front ++ more) (all_of (map group_of (group ∷ parts))) ≡ None
unread front parts group bad = rw bad refl

-- there are as many numbers as groups
length-all_of : (groups : List (Option ℕ)) (numbers : List ℕ) → all_of groups ≡ Some numbers → length numbers ≡ length groups
length-all_of [] numbers found = let same : [] ≡ numbers = cc in rw (← same) refl
length-all_of (None ∷ groups) numbers found = absurd (none-some numbers found)
length-all_of (Some n ∷ groups) numbers found = go (all_of groups) refl found (λ more is. length-all_of groups more is)
  where
    go : (o : Option (List ℕ)) → all_of groups ≡ o → option_map (λ m. n ∷ m) o ≡ Some numbers → ((more : List ℕ) → all_of groups ≡ Some more → length more ≡ length groups) → length numbers ≡ suc (length groups)
    go None is made further = absurd (none-some numbers made)
    go (Some more) is made further =
        let same : n ∷ more ≡ numbers = cc in
        rw (← same) (ap suc (further more is))

-- eight groups that are read
pub eight-some : (text segments : List ℕ) → all_of (map group_of (slice_split (λ b. b == colon) text)) ≡ Some segments → length segments ≡ 8 → segments_read text ≡ Some segments
unfolding segments_read
eight-some text segments all eight = rw (all, eq-eqb (length segments) 8 eight) refl

-- fewer or more than eight groups
pub other-none : (text segments : List ℕ) → all_of (map group_of (slice_split (λ b. b == colon) text)) ≡ Some segments → length segments ≢ 8 → segments_read text ≡ None
unfolding segments_read
other-none text segments all other = rw (all, ne_eqb (length segments) 8 other) refl

-- one of the groups can't be read
pub bad-none : (text : List ℕ) → all_of (map group_of (slice_split (λ b. b == colon) text)) ≡ None → segments_read text ≡ None
unfolding segments_read
bad-none text bad = rw bad refl

-- after eight groups, another is one too many
pub more-none : (text rest front : List ℕ) → all_of (map group_of (slice_split (λ b. b == colon) text)) ≡ option_map (λ more. front ++ more) (all_of (map group_of (slice_split (λ b. b == colon) rest))) → length front ≡ 8 → segments_read text ≡ None
more-none text rest front read eight = go (all_of (map group_of (slice_split (λ b. b == colon) rest))) refl
  where
    go : (o : Option (List ℕ)) → all_of (map group_of (slice_split (λ b. b == colon) rest)) ≡ o → segments_read text ≡ None
    go None is = bad-none text (rw is at read)
    go (Some more) is =
        let count = length-all_of (map group_of (slice_split (λ b. b == colon) rest)) more is in
        let groups = length-slice_split (λ b. b == colon) rest in
        let same = length-map (slice_split (λ b. b == colon) rest) group_of in
        let whole = length-append front more in
        other-none text (front ++ more) (rw is at read) (λ all. omega arith)

-- a text that was read as a group is one
group_of-is : (text : List ℕ) (n : ℕ) → group_of text ≡ Some n → IsGroup text n
unfolding group_of
group_of-is text n found = go (ltb 0 (length text) && are_few text) refl found
  where
    go : (b : Bool) → (ltb 0 (length text) && are_few text) ≡ b → cond b (Some (digits_value 16 text)) None ≡ Some n → IsGroup text n
    go false is made = absurd (none-some n made)
    go true is made =
        let parts = and_parts (ltb 0 (length text)) (are_few text) is in
        let few = and_parts (leb (length text) 4) (list_all (λ b. is_digit b 16) text) parts.1 in
        let value : digits_value 16 text ≡ n = cc in
        (((ltb-true 0 (length text) parts.0, AllDigits-test text few.1), value), leb-true (length text) 4 few.0)

-- the standard library's definition implies the test
test-AllDigits : (text : List ℕ) → AllDigits 16 text → list_all (λ b. is_digit b 16) text ≡ true
test-AllDigits [] all = refl
test-AllDigits (b ∷ text) all = rw (lt-ltb (digit_value b) 16 all.0, test-AllDigits text all.1) refl

-- a text that is a group is read
group_of-written : (text : List ℕ) (n : ℕ) → IsGroup text n → group_of text ≡ Some n
unfolding group_of
group_of-written text n group =
    let some = lt-ltb 0 (length text) group.0.0.0 in
    let few = le-leb (length text) 4 group.1 in
    let digits = test-AllDigits text group.0.0.1 in
    rw (some, few, digits, group.0.1) refl

-- a group contains no byte that isn't a digit
has-group : (byte : ℕ) → 16 ≤ digit_value byte → (text : List ℕ) → AllDigits 16 text → has byte text ≡ false
has-group byte other [] all = refl
has-group byte other (b ∷ text) all =
    let differs : b ≢ byte = λ same. let small : digit_value byte < 16 = rw same at all.0 in omega arith in
    rw (ne_eqb b byte differs, has-group byte other text all.1) refl

-- groups that are read are groups
groups-are : (groups : List (List ℕ)) (segments : List ℕ) → all_of (map group_of groups) ≡ Some segments → AllZip IsGroup groups segments
groups-are [] segments found = let none : [] ≡ segments = cc in rw (← none) tt
groups-are (group ∷ groups) segments found = go (group_of group) refl (all_of (map group_of groups)) refl found (λ more is. groups-are groups more is)
  where
    go : (n : Option ℕ) → group_of group ≡ n → (rest : Option (List ℕ)) → all_of (map group_of groups) ≡ rest → all_of (n ∷ map group_of groups) ≡ Some segments → ((more : List ℕ) → all_of (map group_of groups) ≡ Some more → AllZip IsGroup groups more) → AllZip IsGroup (group ∷ groups) segments
    go None is rest left made further = absurd (none-some segments made)
    go (Some n) is None left made further = absurd (none-some segments (rw left at made))
    go (Some n) is (Some more) left made further =
        let both : Some (n ∷ more) ≡ Some segments = rw left at made in
        let same : n ∷ more ≡ segments = cc in
        rw (← same) (group_of-is group n is, further more left)

-- groups are read
groups-written : (groups : List (List ℕ)) (segments : List ℕ) → AllZip IsGroup groups segments → all_of (map group_of groups) ≡ Some segments
groups-written [] [] all = refl
groups-written [] (s ∷ segments) all = absurd all
groups-written (group ∷ groups) [] all = absurd all
groups-written (group ∷ groups) (s ∷ segments) all = rw (group_of-written group s all.0, groups-written groups segments all.1) refl

-- the text of groups contains no byte that is neither a digit nor a colon
pub has-groups : (byte : ℕ) → 16 ≤ digit_value byte → (58 == byte) ≡ false → (groups : List (List ℕ)) (segments : List ℕ) → AllZip IsGroup groups segments → has byte (join_with_byte 58 groups) ≡ false
has-groups byte other apart [] segments all = refl
has-groups byte other apart (group ∷ groups) [] all = absurd all
has-groups byte other apart (group ∷ []) (s ∷ segments) all = has-group byte other group all.0.0.0.1
has-groups byte other apart (group ∷ next ∷ groups) (s ∷ segments) all =
    let first = has-group byte other group all.0.0.0.1 in
    let rest = has-groups byte other apart (next ∷ groups) segments all.1 in
    rw (list_any-append, first, apart, rest) refl

-- groups joined by colons are split into the same groups
split-groups : (group : List ℕ) (groups : List (List ℕ)) (segments : List ℕ) → AllZip IsGroup (group ∷ groups) segments → slice_split (λ b. b == 58) (join_with_byte 58 (group ∷ groups)) ≡ group ∷ groups
split-groups group groups [] all = absurd all
split-groups group [] (s ∷ segments) all = slice_split_none (λ b. b == 58) group (All-others 58 group (has-group 58 (lit≤ tt) group all.0.0.0.1))
split-groups group (next ∷ groups) (s ∷ segments) all =
    slice_split_at (λ b. b == 58) group 58 (join_with_byte 58 (next ∷ groups)) (All-others 58 group (has-group 58 (lit≤ tt) group all.0.0.0.1)) refl
    ∙ ap (λ parts. group ∷ parts) (split-groups next groups segments all.1)

-- eight groups are read
pub segments_read-written : (text segments : List ℕ) → AreGroups text segments → segments_read text ≡ Some segments
segments_read-written text segments ([], is, all, eight) = absurd (none_eight segments all eight)
  where
    none_eight : (segments : List ℕ) → AllZip IsGroup [] segments → length segments ≡ 8 → ⊥
    none_eight [] all eight = omega arith
    none_eight (s ∷ segments) all eight = absurd all
segments_read-written text segments (group ∷ groups, is, all, eight) =
    let split = split-groups group groups segments all in
    eight-some text segments (rw (is, split) (groups-written (group ∷ groups) segments all)) eight

-- a text that was read is eight groups
pub segments_read-is : (text segments : List ℕ) → segments_read text ≡ Some segments → AreGroups text segments
unfolding segments_read
segments_read-is text segments found = go (all_of (map group_of (slice_split (λ b. b == colon) text))) refl found
  where
    go : (o : Option (List ℕ)) → all_of (map group_of (slice_split (λ b. b == colon) text)) ≡ o → (o >>= if_eight) ≡ Some segments → AreGroups text segments
    go None is made = absurd (none-some segments made)
    go (Some some) is made =
        let same = sized some (length some == 8) refl made in
        (slice_split (λ b. b == colon) text, sym (join_with_byte-slice_split colon text), rw same.0 at (groups-are (slice_split (λ b. b == colon) text) some is), same.1)
      where
        sized : (some : List ℕ) (b : Bool) → (length some == 8) ≡ b → cond b (Some some) None ≡ Some segments → (some ≡ segments) × (length segments ≡ 8)
        sized some false is made = absurd (none-some segments made)
        sized some true is made =
            let same : some ≡ segments = cc in
            (same, rw same at (eqb-true (length some) 8 is))
