-- Numbers as texts.
use Rattle.std.specs.Prelude.{◌≡◌, ℕ, ◌≤◌, ◌&&◌, nat_le, nat_lt, List, length, Option, Some, None, option_map, if◌then◌else◌}
use Rattle.std.specs.Borrow.{Bor}
use Rattle.std.specs.Char.{is_digit}
use Rattle.std.specs.Fmt.{decimal}
use Rattle.std.specs.List.{list_all}
use Rattle.std.specs.Str.{bytes_eq}
use Rattle.std.specs.Str.Parse.{digits_value}
use Rattle.coap_message.specs.Reading.{◌>>=◌}
use Rattle.coap_lines.specs.Texts.{cut}

-- a text gives a number, at most `most`, in decimal digits, without leading zeros
abbrev pub IsNumber : ℕ → List ℕ → ℕ → Type 0
IsNumber most text n = (text ≡ decimal n) × (n ≤ most)

-- the number that a text gives in this form
unfoldable pub number_of : ℕ → List ℕ → Option ℕ
number_of most text =
    let n = digits_value 10 text in
    if bytes_eq text (decimal n) && nat_le n most then Some n else None

-- the number of a group of an IPv6 address, which has one to four hexadecimal digits in either case
unfoldable pub group_of : List ℕ → Option ℕ
group_of text =
    if nat_lt 0 (length text) && (nat_le (length text) 4 && list_all (λ b. is_digit b 16) text)
    then Some (digits_value 16 text)
    else None

-- the number and the text that a call returns, which is borrowed
abbrev pub number_seen : Option (ℕ × Bor (List ℕ)) → Option (ℕ × List ℕ)
number_seen found = option_map (λ p. (p.0, p.1.now)) found

-- the number before the first such byte, and what follows that byte
unfoldable pub number_before : ℕ → ℕ → List ℕ → Option (ℕ × List ℕ)
number_before byte most text = do
  parts ← cut byte text
  n ← number_of most parts.0
  Some (n, parts.1)
