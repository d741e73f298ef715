-- The options that are recognised (RFC 7252, 5.10; Observe: RFC 7641, 2).
-- Max-Age is recognised in requests too, so that it is removed there instead of causing a
-- rejection.
use Rattle.std.specs.Prelude.{◌==◌, ℕ, List, [], ◌∷◌, Option, find}
use Rattle.coap_option.specs.declared.numbers.TheConstants.{IF_MATCH, URI_HOST, ETAG, IF_NONE_MATCH, OBSERVE, URI_PORT, LOCATION_PATH, URI_PATH, CONTENT_FORMAT, MAX_AGE, URI_QUERY, ACCEPT, LOCATION_QUERY, PROXY_URI, PROXY_SCHEME, SIZE1}
use Rattle.coap_option.specs.declared.table.Row.{Row}
use Rattle.coap_option.specs.declared.table.Times.{Times}
use Rattle.coap_option.specs.declared.table.Times.TheVariants.{Never, Once, Many}

-- number; how often it may occur in a request, and in a response; least and greatest length of the
-- value, in bytes
abbrev pub entry : ℕ → Times → Times → ℕ → ℕ → Row
entry number requests responses shortest longest =
    record {
      number = number;
      requests = requests;
      responses = responses;
      shortest = shortest;
      longest = longest;
    }

abbrev pub option_table : List Row
option_table =
    entry IF_MATCH Many Never 0 8
    ∷ entry URI_HOST Once Never 1 255
    ∷ entry ETAG Many Once 1 8
    ∷ entry IF_NONE_MATCH Once Never 0 0
    ∷ entry OBSERVE Once Once 0 3
    ∷ entry URI_PORT Once Never 0 2
    ∷ entry LOCATION_PATH Never Many 0 255
    ∷ entry URI_PATH Many Never 0 255
    ∷ entry CONTENT_FORMAT Once Once 0 2
    ∷ entry MAX_AGE Once Once 0 4
    ∷ entry URI_QUERY Many Never 0 255
    ∷ entry ACCEPT Once Never 0 2
    ∷ entry LOCATION_QUERY Never Many 0 255
    ∷ entry PROXY_URI Once Never 1 1034
    ∷ entry PROXY_SCHEME Once Never 1 255
    ∷ entry SIZE1 Once Once 0 4
    ∷ []

-- the row with a number, if there is one
abbrev pub row_of : ℕ → Option Row
row_of number = find (λ r. r.number == number) option_table
