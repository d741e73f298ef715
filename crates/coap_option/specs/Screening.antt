-- The option because of which a message is refused.
use Rattle.std.specs.Prelude.{ℕ, Bool, ◌&&◌, not, List, Option, find}
use Rattle.std.specs.Option.{option_map}
use Rattle.coap_message.specs.declared.options.Opt.{Opt}
use Rattle.coap_option.specs.declared.side.Side.{Side}
use Rattle.coap_option.specs.Classes.{is_unsafe}
use Rattle.coap_option.specs.Places.{PlacedOption, places, is_recognised_at}

-- unsafe and not recognised: a proxy must not forward the message (RFC 7252, 5.4.1, 5.4.2 and
-- 5.7.1)
abbrev pub is_refused : Side → PlacedOption → Bool
is_refused side p = is_unsafe p.option.number && not (is_recognised_at side p)

-- the number of the first option because of which the message is refused
abbrev pub first_refused : Side → List Opt → Option ℕ
first_refused side options =
    option_map (λ p. p.option.number) (find (is_refused side) (places options))
