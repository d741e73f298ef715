-- The value of `-P`.
use Rattle.std.specs.Prelude.{ℕ, Bool, not, ◌==◌, ◌&&◌, nat_le, List, [], ◌∷◌, ◌++◌, length, take, drop, map, codes, bytes_eq, Option, Some, None, option_and_then, Result, Ok, Err, String, Vec, string_bytes, if◌then◌else◌}
use Rattle.std.specs.Char.{is_ascii_digit}
use Rattle.std.specs.List.{list_all, slice_split}
use Rattle.std.specs.Option.{option_map_or}
use Rattle.std.specs.Str.Parse.{digits_value}
use Rattle.coap_target.specs.RouteTexts.{all_of, is_name}
use Rattle.coap_endpoint.specs.declared.endpoint.Endpoint.{Endpoint}
use Rattle.coap_endpoint.specs.declared.endpoint.Ip.{Ip}
use Rattle.coap_uri.specs.Address.{ip_of}
use Rattle.coap_uri.specs.Uri.{is_port}
use Rattle.coap_config.specs.Texts.{Text, cut_at, lower}
use Rattle.coap_config.specs.declared.error.ProxyOptionError.{ProxyOptionError}
use Rattle.coap_config.specs.declared.error.ProxyOptionError.TheVariants.{NoComma, NextProxy, BadName}
use Rattle.coap_config.specs.declared.proxy_option.ProxyOption.{ProxyOption}

abbrev pub comma : ℕ
comma = 0x2C

abbrev pub colon : ℕ
colon = 0x3A

abbrev pub right_bracket : ℕ
right_bracket = 0x5D

-- what the option holds: the next proxy, and the own names
pub record Said : Type 0 where
  pub next : Option Endpoint
  pub names : List Text

-- the texts of strings
abbrev pub bytes_of : {A B : Type 0} → Vec (String A) B → List Text
bytes_of texts = map string_bytes texts.items

abbrev pub seen : ProxyOption → Said
seen option = record { next = option.next; names = bytes_of option.names }

-- the texts between commas
abbrev pub parts : Text → List Text
parts text = slice_split (λ b. b == comma) text

-- an own name, in lower case
abbrev pub name_of : Text → Option Text
name_of text = if is_name text then Some (lower text) else None

abbrev pub names_of : List Text → Option (List Text)
names_of texts = all_of (map name_of texts)

-- at most 64 names
abbrev pub few : List Text → Option (List Text)
few names = if nat_le (length names) 64 then Some names else None

-- ---- the next proxy

-- what follows a prefix of a text, if the text has it
abbrev pub after_prefix : Text → Text → Option Text
after_prefix prefix text =
    if bytes_eq (take (length prefix) text) prefix then Some (drop (length prefix) text) else None

-- decimal digits, or none, without leading zeros
abbrev pub is_numeral : Text → Bool
is_numeral digits = not (bytes_eq (take 1 digits) (codes "0")) && list_all is_ascii_digit digits

-- a port: the numeral of a number from 1 to 65,535
abbrev pub port_of : Text → Option ℕ
port_of digits =
    if is_numeral digits && is_port (digits_value 10 digits)
    then Some (digits_value 10 digits)
    else None

-- the port after an address in brackets: 5683 if nothing follows it (RFC 7252, 6.1)
abbrev pub port_after : Text → Option ℕ
port_after [] = Some 5683
port_after (b ∷ digits) = if b == colon then port_of digits else None

abbrev pub endpoint_with : Option Ip → Option ℕ → Option Endpoint
endpoint_with None port = None
endpoint_with (Some ip) None = None
endpoint_with (Some ip) (Some port) = Some (record { ip = ip; port = port })

-- an address that ends at a closing bracket, and one that ends at a colon or with the text
abbrev pub bracketed : Text × Text → Option Endpoint
bracketed cut = endpoint_with (ip_of (cut.0 ++ codes "]")) (port_after cut.1)

abbrev pub plain : Text → Option (Text × Text) → Option Endpoint
plain text None = endpoint_with (ip_of text) (Some 5683)
plain text (Some cut) = endpoint_with (ip_of cut.0) (port_of cut.1)

abbrev pub endpoint_of : Text → Option Endpoint
endpoint_of text =
    option_map_or bracketed (cut_at right_bracket text) (plain text (cut_at colon text))

-- `coap://`, an address, and perhaps a colon and a port; nothing else
abbrev pub next_of : Text → Option Endpoint
next_of text = option_and_then endpoint_of (after_prefix (codes "coap://") text)

-- ---- all of it

-- a text that isn't empty before the first comma must be a next proxy
abbrev pub next_said : Text → Result (Option Endpoint) ProxyOptionError
next_said [] = Ok None
next_said (b ∷ text) = option_map_or (λ next. Ok (Some next)) (next_of (b ∷ text)) (Err NextProxy)

-- the option with this next proxy and these names
abbrev pub with_names : Option Endpoint → Option (List Text) → Result Said ProxyOptionError
with_names next None = Err BadName
with_names next (Some names) = Ok (record { next = next; names = names })

abbrev pub with_next :
    Result (Option Endpoint) ProxyOptionError → Text → Result Said ProxyOptionError
with_next (Err e) names = Err e
with_next (Ok next) names = with_names next (option_and_then few (names_of (parts names)))

-- a next proxy, or none, comes before the first comma, and the names come after it
abbrev pub after_comma : Text → Text → Result Said ProxyOptionError
after_comma next names = with_next (next_said next) names

abbrev pub option_said : Option (Text × Text) → Result Said ProxyOptionError
option_said None = Err NoComma
option_said (Some cut) = after_comma cut.0 cut.1

unfoldable pub proxy_option_of : Text → Result Said ProxyOptionError
proxy_option_of text = option_said (cut_at comma text)
