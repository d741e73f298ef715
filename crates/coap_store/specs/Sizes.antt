-- How many bytes an entry counts for: 64, plus the values that it keeps, with one more byte for
-- each.
use Rattle.std.specs.Prelude.{ℕ, ◌+◌, List, Option, length}
use Rattle.std.specs.List.{sum_by}
use Rattle.std.specs.Option.{option_map_or}
use Rattle.coap_message.specs.declared.options.Opt.{Opt}
use Rattle.coap_store.specs.declared.key.CacheKey.{CacheKey}
use Rattle.coap_store.specs.declared.stored.Stored.{Stored}

-- a value counts for one byte more than its length
abbrev pub value_size : List ℕ → ℕ
value_size value = length value + 1

-- the values of a list: the segments of a path, the parts of a query
abbrev pub values_size : List (List ℕ) → ℕ
values_size values = sum_by value_size values

-- the values of options
abbrev pub options_size : List Opt → ℕ
options_size options = sum_by (λ o. value_size o.value) options

-- a host, if there is one
abbrev pub host_size : Option (List ℕ) → ℕ
host_size host = option_map_or value_size host 0

-- the key
abbrev pub key_size : CacheKey → ℕ
key_size key =
    host_size key.target.host + values_size key.target.path + values_size key.target.query
    + options_size key.options

-- the entry: its key, and the options and the payload of its response. The token and the Message ID
-- aren't counted.
abbrev pub size_of : CacheKey → Stored → ℕ
size_of key stored =
    64 + key_size key + options_size stored.response.options + length stored.response.payload
