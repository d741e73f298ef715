-- What a client is sent for a response (RFC 7252, 5.6, 5.7.1, 5.10.5 and 5.10.6).
use Rattle.std.specs.Prelude.{ℕ, ◌==◌, ◌/◌, ◌||◌, Bool, if◌then◌else◌, List, [], ◌∷◌, Option, None, Some}
use Rattle.std.specs.List.{list_any}
use Rattle.std.specs.Option.{option_map_or}
use Rattle.coap_message.specs.declared.code.Code.{Code}
use Rattle.coap_message.specs.declared.code.TheConstants.Code.{CONTENT, VALID}
use Rattle.coap_message.specs.declared.kind.Kind.{Kind}
use Rattle.coap_message.specs.Codes.{is_code}
use Rattle.coap_message.specs.Message.{Message}
use Rattle.coap_message.specs.Options.{option_of}
use Rattle.coap_option.specs.declared.numbers.TheConstants.{ETAG}
use Rattle.coap_endpoint.specs.Equality.{same_bytes}
use Rattle.coap_store.specs.Renewing.{tag_of, max_age_option, with_max_age}

-- 2.05
abbrev pub is_content : Code → Bool
is_content code = is_code code CONTENT

-- a 2.05, or an error of class 4 or 5, may be cached, and is sent with a Max-Age
abbrev pub is_cacheable : Code → Bool
is_cacheable code = is_content code || (code.0 / 32 == 4 || code.0 / 32 == 5)

-- a tag, if it is one of the client's
abbrev pub among : List (List ℕ) → Option (List ℕ) → Option (List ℕ)
among tags None = None
among tags (Some tag) = if list_any (same_bytes tag) tags then Some tag else None

-- the tag of a 2.05 that the client already holds (RFC 7252, 5.10.6.2)
abbrev pub held_tag : Message → List (List ℕ) → Option (List ℕ)
held_tag m tags = if is_content m.code then among tags (tag_of m.options) else None

-- a 2.03 with just this tag and the Max-Age (RFC 7252, 5.9.1.3)
abbrev pub valid : Message → ℕ → List ℕ → Message
valid m left tag =
    record m {
      code = VALID;
      options = option_of ETAG tag ∷ max_age_option left ∷ [];
      payload = [];
    }

-- with one Max-Age, of the seconds left
abbrev pub aged : Message → ℕ → Message
aged m left = record m { options = with_max_age left m.options }

-- as a 2.03 if the client holds it, and otherwise with a Max-Age of the seconds left
abbrev pub aged_or_valid : Message → ℕ → List (List ℕ) → Message
aged_or_valid m left tags = option_map_or (valid m left) (held_tag m tags) (aged m left)

-- What is sent to a client with these tags for a response. `left` is for how many seconds it stays
-- fresh, if it is an origin's answer to a GET; without it the response is sent as it is.
abbrev pub shown : Message → Option ℕ → List (List ℕ) → Message
shown m None tags = m
shown m (Some left) tags = if is_cacheable m.code then aged_or_valid m left tags else m

-- as a message of its own, with this type, Message ID and token
abbrev pub addressed : Kind → ℕ → List ℕ → Message → Message
addressed kind id token m = record m { kind = kind; id = id; token = token }
