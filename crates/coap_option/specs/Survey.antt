-- What one pass over the options of a request tells.
use Rattle.std.specs.Prelude.{◌≡◌, ℕ, nat_lt, not, ◌==◌, ◌||◌, Bool, true, false, List, [], ◌∷◌, Option, Some, None, if◌then◌else◌}
use Rattle.std.specs.List.{list_any}
use Rattle.coap_message.specs.declared.code.Code.{Code}
use Rattle.coap_message.specs.declared.options.Opt.{Opt}
use Rattle.coap_message.specs.Message.{Message}
use Rattle.coap_message.specs.Options.{last_number}
use Rattle.coap_option.specs.declared.numbers.TheConstants.{ETAG, PROXY_URI, PROXY_SCHEME}
use Rattle.coap_option.specs.declared.side.Side.TheVariants.{Request}
use Rattle.coap_option.specs.declared.survey.Span.{Span}
use Rattle.coap_option.specs.declared.survey.Survey.{Survey}
use Rattle.coap_option.specs.Places.{PlacedOption}
use Rattle.coap_option.specs.Screening.{first_refused}
use Rattle.coap_option.specs.Selection.{is_key, is_of, key_of, selected, sent_on, is_withheld, tags_of}
use Rattle.coap_option.specs.Side.{side_of}

-- an option with this number gives a URI, or its scheme (RFC 7252, 5.10.2)
abbrev pub is_of_uri : ℕ → Bool
is_of_uri number = number == PROXY_URI || number == PROXY_SCHEME

-- there is a Proxy-Uri or a Proxy-Scheme among the options
abbrev pub say_uri : List Opt → Bool
say_uri options = list_any (λ o. is_of_uri o.number) options

-- the request gives its target as a URI (RFC 7252, 5.10.2)
abbrev pub says_uri : Message → Bool
says_uri m = say_uri m.options

-- the least and the greatest number of options in order, with one more
abbrev pub widened : Option Span → ℕ → Option Span
widened None number = Some (record { least = number; greatest = number })
widened (Some span) number = Some (record { least = span.least; greatest = number })

-- and with more of them
abbrev pub widened_by : Option Span → List Opt → Option Span
widened_by span [] = span
widened_by span (o ∷ os) = widened_by (widened span o.number) os

-- the least and the greatest number of options in order, if there are any
abbrev pub span_of : List Opt → Option Span
span_of options = widened_by None options

-- there are any of them
abbrev pub are_any : {A : Type 0} → List A → Bool
are_any [] = false
are_any (x ∷ xs) = true

-- the options of a request that aren't part of the cache key
abbrev pub outside_key : Message → List Opt
outside_key m = selected (λ p. not (is_key m.code p)) m.options

-- No option of the request is refused, and what the survey says of it is right: whether its target
-- is given as a URI, whether there are options that are part of its key, whether there are
-- recognised ETags, from which number to which there are options that are forwarded, and which
-- number the last option has that isn't part of its key.
pub record IsSurvey (m : Message) (survey : Survey) : Type 0 where
  pub screened : first_refused Request m.options ≡ None
  pub uri : survey.says_uri ≡ says_uri m
  pub key : survey.has_key_options ≡ are_any (key_of m)
  pub tags : survey.has_tags ≡ are_any (tags_of m)
  pub others : survey.others ≡ span_of (sent_on m)
  pub outside : survey.last_outside_key ≡ last_number 0 (outside_key m)

-- a survey of some options of a request with this code, and of one more
abbrev pub with_one : Code → Survey → PlacedOption → Survey
with_one code survey p =
    record {
      says_uri = survey.says_uri || is_of_uri p.option.number;
      has_key_options = survey.has_key_options || is_key code p;
      has_tags = survey.has_tags || is_of (side_of code) ETAG p;
      others = if is_withheld code p then survey.others else widened survey.others p.option.number;
      last_outside_key = if is_key code p then survey.last_outside_key else p.option.number;
    }

-- and of all of a list
abbrev pub with_all : Code → Survey → List PlacedOption → Survey
with_all code survey [] = survey
with_all code survey (p ∷ ps) = with_all code (with_one code survey p) ps

-- a survey of no options
abbrev pub of_none : Survey
of_none =
    record {
      says_uri = false;
      has_key_options = false;
      has_tags = false;
      others = None;
      last_outside_key = 0;
    }

-- The number from which on all options are part of the key, if no option before them is forwarded:
-- the least of those that are forwarded, if the last that isn't part of the key is below it.
abbrev pub from_above : ℕ → Option Span → Option ℕ
from_above last None = None
from_above last (Some span) = if nat_lt last span.least then Some span.least else None

abbrev pub key_from : Survey → Option ℕ
key_from survey = from_above survey.last_outside_key survey.others
