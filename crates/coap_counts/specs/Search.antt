-- A search for the map for a path, of which the first segment is known.
use Rattle.std.specs.Prelude.{ℕ, nat_lt, if◌then◌else◌, List, [], ◌∷◌, length, Option, Some, None}
use Rattle.coap_message.specs.declared.options.Opt.{Opt}
use Rattle.coap_option.specs.declared.numbers.TheConstants.{URI_PATH}
use Rattle.coap_target.specs.Routes.{values_of}
use Rattle.coap_target.specs.declared.map.Map.{Map}

-- the segments of a path among the options that are left of a request
abbrev pub segments : List Opt → List (List ℕ)
segments left = values_of URI_PATH left

-- the first segment of a path, if it has any
abbrev pub first : List (List ℕ) → Option (List ℕ)
first [] = None
first (s ∷ path) = Some s

-- the best map so far, or a later one if that has a longer prefix
abbrev pub better : Option Map → Map → Option Map
better None m = Some m
better (Some b) m = if nat_lt (length b.prefix) (length m.prefix) then Some m else Some b
