-- What a configuration holds, or the first fault in it.
use Rattle.std.specs.Prelude.{ℕ, pos, Bool, not, ◌==◌, ◌||◌, List, [], ◌∷◌, ◌++◌, map, codes, bytes_eq, Option, Some, None, ok_or, Result, Ok, Err, if◌then◌else◌}
use Rattle.std.specs.List.{list_any}
use Rattle.std.specs.Str.{is_utf8}
use Rattle.toml.specs.Data.{Data, string, integer, array, table, Members, get_member}
use Rattle.toml.specs.Parse.{parse_document}
use Rattle.coap_limits.specs.declared.limits.Limit.{Limit}
use Rattle.coap_limits.specs.declared.limits.Limit.TheVariants.{CacheBytes, CacheEntries, ConRecords, NonRecords, Exchanges, Waiters, Nstart, Datagram, ExchangeMs, RetryS, ClientConRecords, ClientNonRecords, ClientExchanges, ClientWaiters}
use Rattle.coap_limits.specs.Limits.{Limits, default_limits, first_fault, limits_per_client, value_of, without_client_limits}
use Rattle.coap_target.specs.RouteLists.{RouteLists}
use Rattle.coap_target.specs.RouteTexts.{Pair, routes_of}
use Rattle.coap_target.specs.declared.error.RouteError.{RouteError}
use Rattle.coap_config.specs.Texts.{Text, lower}
use Rattle.coap_config.specs.Tree.{after, each_item, each_member, first_key}
use Rattle.coap_config.specs.declared.config_error.ConfigError.{ConfigError}
use Rattle.coap_config.specs.declared.config_error.ConfigError.TheVariants.{Syntax, Key, Value, Routes}
use Rattle.coap_config.specs.declared.tables.Place.{Place}
use Rattle.coap_config.specs.declared.tables.Place.TheVariants as place
use Rattle.coap_config.specs.declared.tables.Version.{Version}
use Rattle.coap_config.specs.declared.tables.Version.TheVariants.{One, Two}

-- what a configuration holds, with names, hosts and maps as the texts that routes are made of
pub record Said : Type 0 where
  pub limits : Limits
  pub names : List Text
  pub hosts : List Pair
  pub maps : List Pair

-- ---- keys

-- the key of a limit
abbrev pub limit_key : Limit → Text
limit_key CacheBytes = codes "cache_bytes"
limit_key CacheEntries = codes "cache_entries"
limit_key ConRecords = codes "con_records"
limit_key NonRecords = codes "non_records"
limit_key Exchanges = codes "exchanges"
limit_key Waiters = codes "waiters"
limit_key Nstart = codes "nstart"
limit_key Datagram = codes "datagram"
limit_key ExchangeMs = codes "exchange_ms"
limit_key RetryS = codes "retry_s"
limit_key ClientConRecords = codes "client_con_records"
limit_key ClientNonRecords = codes "client_non_records"
limit_key ClientExchanges = codes "client_exchanges"
limit_key ClientWaiters = codes "client_waiters"

-- the limits on what is held, those on what is sent, and those on what is held for one client
abbrev pub holding : List Limit
holding = CacheBytes ∷ CacheEntries ∷ ConRecords ∷ NonRecords ∷ Exchanges ∷ Waiters ∷ []

abbrev pub sending : List Limit
sending = Nstart ∷ Datagram ∷ ExchangeMs ∷ RetryS ∷ []

abbrev pub for_a_client : List Limit
for_a_client = ClientConRecords ∷ ClientNonRecords ∷ ClientExchanges ∷ ClientWaiters ∷ []

-- the keys that each table may have
abbrev pub is_among : List Text → Text → Bool
is_among keys key = list_any (bytes_eq key) keys

abbrev pub top_keys : List Text
top_keys = codes "version" ∷ codes "names" ∷ codes "limits" ∷ codes "hosts" ∷ codes "map" ∷ []

abbrev pub is_shared_limit : Text → Bool
is_shared_limit key =
    is_among (map limit_key holding) key || is_among (map limit_key sending) key

-- version 1 doesn't know the limits for one client
abbrev pub is_limit : Version → Text → Bool
is_limit One key = is_shared_limit key
is_limit Two key = is_shared_limit key || is_among (map limit_key for_a_client) key

abbrev pub is_known : Place → Text → Bool
is_known place.Top key = is_among top_keys key
is_known (place.Limits version) key = is_limit version key
is_known place.Map key = is_among (codes "prefix" ∷ codes "origin" ∷ []) key

-- the name of a key, after the name of its table and a dot
abbrev pub within : Text → Text → Text
within outer key = outer ++ codes "." ++ key

abbrev pub name_in : Place → Text → Text
name_in place.Top key = key
name_in (place.Limits version) key = within (codes "limits") key
name_in place.Map key = within (codes "map") key

-- the first key that isn't known, if there is one, is a fault
abbrev pub unless_unknown : Place → Option Text → Result (Unit {0}) ConfigError
unless_unknown place None = Ok tt
unless_unknown place (Some key) = Err (Key (name_in place key))

abbrev pub keys_checked : Place → Members → Result (Unit {0}) ConfigError
keys_checked place members =
    unless_unknown place (first_key (λ key. not (is_known place key)) members)

-- ---- values

-- the number 1 or 2
abbrev pub version_of : Data → Option Version
version_of (integer (pos n)) =
    if n == 1 then Some One else (if n == 2 then Some Two else None)
version_of _ = None

-- `version` must be present, and be 1 or 2
abbrev pub version_said : Option Data → Result Version ConfigError
version_said None = Err (Key (codes "version"))
version_said (Some d) = ok_or (version_of d) (Value (codes "version"))

-- a text under a key of a map
abbrev pub text_said : Text → Option Data → Result Text ConfigError
text_said key (Some (string text)) = Ok text
text_said key (Some _) = Err (Value (name_in place.Map key))
text_said key None = Err (Value (name_in place.Map key))

-- ---- own names

abbrev pub name_said : Data → Result Text ConfigError
name_said (string text) = Ok (lower text)
name_said _ = Err (Value (codes "names"))

-- a list of texts, in lower case; empty if it is left out
abbrev pub names_said : Option Data → Result (List Text) ConfigError
names_said None = Ok []
names_said (Some (array items)) = each_item name_said items
names_said (Some _) = Err (Value (codes "names"))

-- ---- limits

-- the number that a value gives for a limit, or one that no limit may be if the value isn't an
-- integer from 0 up
abbrev pub number_said : Data → ℕ
number_said (integer (pos n)) = n
number_said _ = 0xFFFFFFFFFFFFFFFF

-- the value of a limit, or the default if it is left out
abbrev pub limit_or : ℕ → Option Data → ℕ
limit_or default None = default
limit_or default (Some d) = number_said d

abbrev pub limit_in : Limits → Members → Limit → ℕ
limit_in defaults members limit =
    limit_or (value_of defaults limit) (get_member (limit_key limit) members)

abbrev pub values_in : Limits → Members → Limits
values_in defaults members = record {
  cache_bytes = limit_in defaults members CacheBytes;
  cache_entries = limit_in defaults members CacheEntries;
  con_records = limit_in defaults members ConRecords;
  non_records = limit_in defaults members NonRecords;
  exchanges = limit_in defaults members Exchanges;
  waiters = limit_in defaults members Waiters;
  nstart = limit_in defaults members Nstart;
  datagram = limit_in defaults members Datagram;
  exchange_ms = limit_in defaults members ExchangeMs;
  retry_s = limit_in defaults members RetryS;
  client_con_records = limit_in defaults members ClientConRecords;
  client_non_records = limit_in defaults members ClientNonRecords;
  client_exchanges = limit_in defaults members ClientExchanges;
  client_waiters = limit_in defaults members ClientWaiters;
}

-- In version 1 one client may use up what all clients share; in version 2 there are limits for one
-- client, with defaults of their own.
abbrev pub limits_in : Version → Members → Limits
limits_in One members = without_client_limits (values_in default_limits members)
limits_in Two members = values_in limits_per_client members

-- the limits if the table is left out
abbrev pub limits_of : Version → Limits
limits_of One = default_limits
limits_of Two = limits_per_client

-- the first limit that is out of its range, in the order of the limits, is a fault
abbrev pub unless_out : Limits → Option Limit → Result Limits ConfigError
unless_out limits None = Ok limits
unless_out limits (Some limit) = Err (Value (within (codes "limits") (limit_key limit)))

abbrev pub limits_checked : Limits → Result Limits ConfigError
limits_checked limits = unless_out limits (first_fault limits)

abbrev pub limits_said : Version → Option Data → Result Limits ConfigError
limits_said version None = Ok (limits_of version)
limits_said version (Some (table members)) =
    after (keys_checked (place.Limits version) members) (λ _.
    limits_checked (limits_in version members))
limits_said version (Some _) = Err (Value (codes "limits"))

-- ---- hosts

-- a name in lower case, and its address unchanged
abbrev pub host_said : Text → Data → Result Pair ConfigError
host_said name (string address) = Ok (lower name, address)
host_said name _ = Err (Value (within (codes "hosts") name))

abbrev pub hosts_said : Option Data → Result (List Pair) ConfigError
hosts_said None = Ok []
hosts_said (Some (table members)) = each_member host_said members
hosts_said (Some _) = Err (Value (codes "hosts"))

-- ---- maps

-- both keys must be present
abbrev pub pair_said : Members → Result Pair ConfigError
pair_said members =
    after (text_said (codes "prefix") (get_member (codes "prefix") members)) (λ prefix.
    after (text_said (codes "origin") (get_member (codes "origin") members)) (λ origin.
    Ok (prefix, origin)))

abbrev pub map_said : Data → Result Pair ConfigError
map_said (table members) = after (keys_checked place.Map members) (λ _. pair_said members)
map_said _ = Err (Value (codes "map"))

abbrev pub maps_said : Option Data → Result (List Pair) ConfigError
maps_said None = Ok []
maps_said (Some (array items)) = each_item map_said items
maps_said (Some _) = Err (Value (codes "map"))

-- ---- all of it

-- Faults of the tree are reported in this order: the version, keys that aren't known, names,
-- limits, hosts, maps.
unfoldable pub table_said : Members → Result Said ConfigError
table_said members =
    after (version_said (get_member (codes "version") members)) (λ version.
    after (keys_checked place.Top members) (λ _.
    after (names_said (get_member (codes "names") members)) (λ names.
    after (limits_said version (get_member (codes "limits") members)) (λ limits.
    after (hosts_said (get_member (codes "hosts") members)) (λ hosts.
    after (maps_said (get_member (codes "map") members)) (λ maps.
    Ok (record { limits = limits; names = names; hosts = hosts; maps = maps })))))))

-- then the texts must make up routes, whether there is a next proxy or not
abbrev pub if_routes : Said → Result RouteLists RouteError → Result Said ConfigError
if_routes said (Ok routes) = Ok said
if_routes said (Err e) = Err (Routes e)

abbrev pub routes_checked : Said → Result Said ConfigError
routes_checked said = if_routes said (routes_of said.names said.hosts said.maps None)

-- a text that isn't UTF-8, or isn't TOML, has a fault that comes before all these
abbrev pub document_of : Text → Result Members ConfigError
document_of text = if is_utf8 text then ok_or (parse_document text) Syntax else Err Syntax

-- before the routes are checked
abbrev pub unchecked_of : Text → Result Said ConfigError
unchecked_of text = after (document_of text) table_said

abbrev pub config_of : Text → Result Said ConfigError
config_of text = after (unchecked_of text) routes_checked
