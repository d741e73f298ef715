-- Messages as they are written, the options before a Max-Age and those after it.
use Rattle.std.specs.Prelude.{ℕ, Bool, nat_lt, List, filter}
use Rattle.coap_message.specs.declared.options.Opt.{Opt}
use Rattle.coap_option.specs.declared.numbers.TheConstants.{MAX_AGE}
use Rattle.coap_store.specs.declared.show.MaxAgeSide.{MaxAgeSide}
use Rattle.coap_store.specs.declared.show.MaxAgeSide.TheVariants.{Before, After}

-- an option with this number is on this side: before a Max-Age, or after it
abbrev pub is_in : MaxAgeSide → ℕ → Bool
is_in Before number = nat_lt number MAX_AGE
is_in After number = nat_lt MAX_AGE number

-- the options on this side
abbrev pub side_of : MaxAgeSide → List Opt → List Opt
side_of side options = filter (λ o. is_in side o.number) options

-- the greatest number that an option before this side can have, 0 if there is none before it
abbrev pub floor_of : MaxAgeSide → ℕ
floor_of Before = 0
floor_of After = MAX_AGE
