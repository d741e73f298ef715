-- Counts of requests by where they go.
use Rattle.std.specs.Prelude.{ℕ, Bool, List, [], ◌∷◌, ◌++◌, fold, map, Option, Some, None, is_some, if◌then◌else◌}
use Rattle.std.specs.List.{list_any}
use Rattle.coap_message.specs.Message.{Message}
use Rattle.coap_message.specs.Pieces.{same_pieces}
use Rattle.coap_model.specs.declared.report.Outcome.{Outcome}
use Rattle.coap_target.specs.Request.{says_uri}
use Rattle.coap_target.specs.Routes.{map_of, path_of}
use Rattle.coap_target.specs.declared.map.Map.{Map}
use Rattle.coap_target.specs.declared.routes.Routes.{Routes}
use Rattle.coap_counts.specs.Requests as requests
use Rattle.coap_counts.specs.declared.maps.MapCounts.{MapCounts}
use Rattle.coap_counts.specs.declared.maps.Way as program_way
use Rattle.coap_counts.specs.declared.maps.Way.TheVariants as program
use Rattle.coap_counts.specs.declared.requests.RequestCounts.{RequestCounts}

-- what a request counts for: the maps with a prefix; what a URI names; the same if there is a next
-- proxy; or no map
pub data Way : Type 0 where
  Mapped : List (List ℕ) → Way
  Forward : Way
  Next : Way
  Unmapped : Way

abbrev pub by_map : Option Map → Way
by_map (Some map) = Mapped map.prefix
by_map None = Unmapped

-- A request that names its target by a URI counts as forwarded, or as handed to the next proxy, if
-- there is one, also if the name is the proxy's own; any other counts for the map for its path, if
-- there is one (RFC 7252, 5.7.2 and 5.7.3).
abbrev pub way_of : Routes → Message → Way
way_of routes m =
    if says_uri m
    then (if is_some routes.next then Next else Forward)
    else by_map (map_of routes.maps (path_of m))

abbrev pub way_seen : program_way.Way → Way
way_seen (program.Mapped prefix) = Mapped prefix.now
way_seen program.Forward = Forward
way_seen program.Next = Next
way_seen program.Unmapped = Unmapped

-- ---- counts

-- counts for each prefix of a map, in the order of the maps, and for the other ways
pub record Ways : Type 0 where
  pub maps : List MapCounts
  pub forward : RequestCounts
  pub next : RequestCounts
  pub unmapped : RequestCounts

-- the counts are those of a prefix
abbrev pub has_prefix : List (List ℕ) → MapCounts → Bool
has_prefix prefix n = same_pieces n.prefix prefix

-- no requests yet were mapped by a prefix
abbrev pub none_by : List (List ℕ) → MapCounts
none_by prefix = record { prefix = prefix; requests = requests.no_requests }

-- the prefix of one more map, unless it is there already
abbrev pub with_prefix_of : List MapCounts → Map → List MapCounts
with_prefix_of counts map =
    if list_any (has_prefix map.prefix) counts then counts else counts ++ none_by map.prefix ∷ []

-- the prefixes of maps, each once, in the order in which they first come
abbrev pub by_prefix : List Map → List MapCounts
by_prefix maps = fold with_prefix_of [] maps

abbrev pub no_ways : Routes → Ways
no_ways routes = record {
  maps = by_prefix routes.maps;
  forward = requests.no_requests;
  next = requests.no_requests;
  unmapped = requests.no_requests;
}

-- a request that was mapped by this prefix is counted there
abbrev pub counted : List (List ℕ) → Outcome → MapCounts → MapCounts
counted prefix outcome n =
    if has_prefix prefix n
    then record n { requests = requests.with_request outcome n.requests }
    else n

-- a request with this outcome went this way
abbrev pub with_request : Way → Outcome → Ways → Ways
with_request (Mapped prefix) outcome n = record n { maps = map (counted prefix outcome) n.maps }
with_request Forward outcome n =
    record n { forward = requests.with_request outcome n.forward }
with_request Next outcome n = record n { next = requests.with_request outcome n.next }
with_request Unmapped outcome n =
    record n { unmapped = requests.with_request outcome n.unmapped }
