-- Lists of options (RFC 7252, 3.1).
use Rattle.std.specs.Prelude.{ℕ, ◌<◌, ◌≤◌, ◌==◌, nat_lt, if◌then◌else◌, List, [], ◌∷◌, length, map, filter}
use Rattle.coap_message.specs.declared.options.Opt.{Opt}

-- an option with this number and this value
abbrev pub option_of : ℕ → List ℕ → Opt
option_of number value = record { number = number; value = value }

-- Options in order of number, the first not below `before`. Each number has sixteen bits, and each
-- value at most 65,804 bytes, the greatest length that can be encoded.
abbrev pub AreOptions : ℕ → List Opt → Type 0
AreOptions before [] = Unit {0}
AreOptions before (o ∷ os) =
    (before ≤ o.number) × (o.number < 65536) × (length o.value ≤ 65804) × AreOptions o.number os

-- the number of the last option, or `before` if there is none
abbrev pub last_number : ℕ → List Opt → ℕ
last_number before [] = before
last_number before (o ∷ os) = last_number o.number os

-- the options from the first one on whose number isn't lower than this
abbrev pub from_number : ℕ → List Opt → List Opt
from_number number [] = []
from_number number (o ∷ os) = if nat_lt o.number number then from_number number os else o ∷ os

-- the values of the options with a number, in order
abbrev pub values_of : ℕ → List Opt → List (List ℕ)
values_of number options = map (λ o. o.value) (filter (λ o. o.number == number) options)
