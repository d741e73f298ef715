-- Which options of a message are forwarded, are part of the cache key, or determine how it is
-- cached.
use Rattle.std.specs.Prelude.{ℕ, Bool, ◌==◌, ◌&&◌, ◌||◌, not, List, [], ◌∷◌, filter, find, length, map}
use Rattle.std.specs.List.{list_any}
use Rattle.std.specs.Option.{option_map_or}
use Rattle.coap_message.specs.declared.code.Code.{Code}
use Rattle.coap_message.specs.declared.code.TheConstants.Code.{GET}
use Rattle.coap_message.specs.declared.options.Opt.{Opt}
use Rattle.coap_message.specs.Codes.{is_code}
use Rattle.coap_message.specs.Message.{Message}
use Rattle.coap_message.specs.Uint.{uint_of}
use Rattle.coap_option.specs.declared.numbers.TheConstants.{URI_HOST, ETAG, OBSERVE, URI_PORT, URI_PATH, MAX_AGE, URI_QUERY, PROXY_URI, PROXY_SCHEME}
use Rattle.coap_option.specs.declared.side.Side.{Side}
use Rattle.coap_option.specs.declared.side.Side.TheVariants.{Request, Response}
use Rattle.coap_option.specs.Classes.{is_no_cache_key}
use Rattle.coap_option.specs.Places.{PlacedOption, places, is_recognised_at}
use Rattle.coap_option.specs.Recognition.{is_recognised}
use Rattle.coap_option.specs.Side.{side_of}

-- the options for which, in their places, the test holds, in order
abbrev pub selected : (PlacedOption → Bool) → List Opt → List Opt
selected test options = map (λ p. p.option) (filter test (places options))

-- the options that the proxy consumes (RFC 7252, 5.7, 5.10.1 and 5.10.2; RFC 7641, 2), and Max-Age,
-- which means nothing in a request
abbrev pub used_up : List ℕ
used_up =
    URI_HOST ∷ OBSERVE ∷ URI_PORT ∷ URI_PATH ∷ MAX_AGE ∷ URI_QUERY ∷ PROXY_URI ∷ PROXY_SCHEME ∷ []

-- an option with this number is one of them
abbrev pub is_used_up : ℕ → Bool
is_used_up number = list_any (λ n. n == number) used_up

-- an ETag in a GET, which the proxy handles itself (RFC 7252, 5.10.6.2)
abbrev pub is_tag_of_get : Code → ℕ → Bool
is_tag_of_get code number = is_code code GET && number == ETAG

-- an option with this number isn't forwarded if it is recognised
abbrev pub is_for_proxy : Code → ℕ → Bool
is_for_proxy code number = is_used_up number || is_tag_of_get code number

-- the option of a request isn't forwarded: it is recognised, and one of those
abbrev pub is_withheld : Code → PlacedOption → Bool
is_withheld code p = is_recognised_at Request p && is_for_proxy code p.option.number

-- the options of a request that are forwarded
abbrev pub sent_on : Message → List Opt
sent_on m = selected (λ p. not (is_withheld m.code p)) m.options

-- If no option is refused, an option alone, apart from its place, determines whether it is
-- forwarded (`laws::forwarding_needs_no_place` of `coap_model`): it isn't consumed, and isn't a
-- recognised ETag of a GET.
abbrev pub is_forwarded : Code → Opt → Bool
is_forwarded code o =
    not (
    is_used_up o.number
    || (is_tag_of_get code o.number && is_recognised Request o.number (length o.value) 0)
    )

-- the option of a request is part of the cache key (RFC 7252, 5.4.2)
abbrev pub is_key : Code → PlacedOption → Bool
is_key code p = not (is_withheld code p) && not (is_no_cache_key p.option.number)

-- the options of a request that are part of the cache key (RFC 7252, 5.6)
abbrev pub key_of : Message → List Opt
key_of m = selected (is_key m.code) m.options

-- a recognised option with this number, on this side
abbrev pub is_of : Side → ℕ → PlacedOption → Bool
is_of side number p = p.option.number == number && is_recognised_at side p

-- the values of the recognised ETags of a message (RFC 7252, 5.10.6)
abbrev pub tags_of : Message → List (List ℕ)
tags_of m = map (λ p. p.option.value) (filter (is_of (side_of m.code) ETAG) (places m.options))

-- the recognised Max-Age of a response, in seconds, or 60 if it has none (RFC 7252, 5.10.5)
abbrev pub max_age_of : Message → ℕ
max_age_of m =
    option_map_or (λ p. uint_of p.option.value) (find (is_of Response MAX_AGE) (places m.options))
    60
