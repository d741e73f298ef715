-- The targets of URIs are targets: their parts are short enough.
use Rattle.std.proofs.Common.{◌≡◌, ℕ, ◌&&◌, Bool, true, false, cond, List, [], ◌∷◌, length, map, codes, bytes_eq, nat_le, Option, Some, None, option_map, Result, Ok, Err, ok_or, refl, subst, ap, arith}
use Rattle.std.specs.List.{AllByRecursion, list_all}
use Rattle.std.proofs.lemmas.Bool.{and_parts, leb-true}
use Rattle.url.specs.declared.host.Host.{Host}
use Rattle.url.specs.Parser.{parse_url}
use Rattle.url.specs.Parts.{Parts, nonempty_host}
use Rattle.coap_endpoint.specs.declared.endpoint.Ip.{Ip}
use Rattle.coap_target.specs.declared.error.RouteError.TheVariants.{Unreadable}
use Rattle.coap_target.specs.declared.error.TargetError.{TargetError}
use Rattle.coap_uri.specs.declared.error.UriError.{UriError}
use Rattle.coap_uri.specs.declared.error.UriError.TheVariants.{Bad, Scheme}
use Rattle.coap_target.proofs.Gathering.{read-some}
use Rattle.coap_target.specs.declared.map.KnownHost.{KnownHost}
use Rattle.coap_target.specs.declared.map.Map.{Map}
use Rattle.coap_endpoint.specs.declared.target.Target.{Target}
use Rattle.coap_uri.specs.declared.uri.HostPart.{HostPart}
use Rattle.coap_uri.specs.declared.uri.HostPart.TheVariants.{Name, Addr}
use Rattle.coap_uri.specs.declared.uri.UriParts.{UriParts}
use Rattle.coap_target.specs.Hosts.{address_of}
use Rattle.coap_target.specs.Request.{named_target, target_at_host, remote}
use Rattle.coap_target.specs.RouteLists.{HaveTargets}
use Rattle.coap_target.specs.RouteTexts.{Pair, prefix_of, target_at, without_query, origin_at, map_with, map_read, all_of}
use Rattle.coap_endpoint.specs.Target.{IsPort, IsShort, IsTarget}
use Rattle.coap_uri.specs.Address.{IsIp}
use Rattle.coap_uri.specs.Uri.{is_port, is_short, is_short_host, are_short, host_text, parts_of, is_plain, with_host, url_or_bad, uri_read, uri_of}
use Rattle.coap_uri.proofs.AddressTexts.{address_text-short, host_part-is}

-- if all parts are short enough, each is
All-list_all : (xs : List (List ℕ)) → list_all is_short xs ≡ true → AllByRecursion IsShort xs
All-list_all [] all = tt
All-list_all (x ∷ xs) all =
    let parts = and_parts (is_short x) (list_all is_short xs) all in
    (leb-true (length x) 255 parts.0, All-list_all xs parts.1)

-- the value chosen by a test
chosen : {T E : Type 0} (b : Bool) (x y : T) (e : E) → cond b (Ok x) (Err e) ≡ Ok y → (b ≡ true) × (x ≡ y)
chosen true x y e is = (refl, cc)
chosen false x y e is = absurd cc

-- the result after a test that didn't fail
chosen-next : {T E : Type 0} (b : Bool) (r : Result T E) (y : T) (e : E) → cond b r (Err e) ≡ Ok y → r ≡ Ok y
chosen-next true r y e is = is
chosen-next false r y e is = absurd cc

-- the parts of a URI are short, its host as text too, and its port has sixteen bits
pub record Fits (uri : UriParts) : Type 0 where
  pub host : is_short_host uri.host ≡ true
  pub text : IsShort (host_text uri.host)
  pub port : IsPort uri.port
  pub path : AllByRecursion IsShort uri.path
  pub query : AllByRecursion IsShort uri.query

-- the text of a host is as short as its name; an address is shorter
pub host_text-short : (host : HostPart) → is_short_host host ≡ true → ((ip : Ip) → host ≡ Addr ip → IsIp ip) → IsShort (host_text host)
host_text-short (Name name) short are = leb-true (length name) 255 short
host_text-short (Addr ip) short are = omega (arith, address_text-short ip (are ip refl))

-- the parts of a URI that was read fit
with_host-fits : (url : Parts) (host : Option (Host (List ℕ))) (uri : UriParts) → with_host url host ≡ Ok uri → Fits uri
with_host-fits url None uri is = absurd cc
with_host-fits url (Some host) uri is =
    let made = parts_of url host in
    let pick = chosen (is_plain url && (is_port made.port && are_short made)) made uri Bad is in
    let rest = (and_parts (is_plain url) (is_port made.port && are_short made) pick.0).1 in
    let both = and_parts (is_port made.port) (are_short made) rest in
    let port = (and_parts (nat_le 1 made.port) (nat_le made.port 65535) both.0).1 in
    let short = and_parts (is_short_host made.host) (list_all is_short made.path && list_all is_short made.query) both.1 in
    let parts = and_parts (list_all is_short made.path) (list_all is_short made.query) short.1 in
    subst Fits pick.1 (record {
      host = short.0;
      text = host_text-short made.host short.0 (host_part-is host);
      port = leb-true made.port 65535 port;
      path = All-list_all made.path parts.0;
      query = All-list_all made.query parts.1;
    })

-- the parts of what is read from a URL fit
uri_read-fits : (r : Result Parts UriError) (uri : UriParts) → uri_read r ≡ Ok uri → Fits uri
uri_read-fits (Err e) uri is = absurd cc
uri_read-fits (Ok url) uri is = with_host-fits url (nonempty_host url) uri (chosen-next (bytes_eq url.scheme (codes "coap")) (with_host url (nonempty_host url)) uri Scheme is)

-- and so do those of what is read from a text
pub uri_of-fits : (text : List ℕ) (uri : UriParts) → uri_of text ≡ Ok uri → Fits uri
unfolding uri_of
uri_of-fits text uri is = uri_read-fits (url_or_bad (parse_url None text)) uri is

-- the target of a URI with short parts
module _ (hosts : List KnownHost) (uri : UriParts) (t : Target) (path : AllByRecursion IsShort uri.path) (query : AllByRecursion IsShort uri.query) where
  -- at the address of a name
  named-is : (ip : Option Ip) (name : List ℕ) → IsShort name → named_target ip name uri ≡ Ok t → IsTarget t
  named-is None name short is = absurd cc
  named-is (Some ip) name short is =
      let made : Target = record { host = Some name; at = record { ip = ip; port = uri.port }; port = None; path = uri.path; query = uri.query } in
      let same : made ≡ t = cc in
      subst IsTarget same (record { host = short; port = tt; path = path; query = query })

  -- at any host
  target_at_host-is : (host : HostPart) → is_short_host host ≡ true → target_at_host hosts host uri ≡ Ok t → IsTarget t
  target_at_host-is (Name name) short is = named-is (address_of hosts name) name (leb-true (length name) 255 short) is
  target_at_host-is (Addr ip) short is =
      let made : Target = record { host = None; at = record { ip = ip; port = uri.port }; port = None; path = uri.path; query = uri.query } in
      let same : made ≡ t = cc in
      subst IsTarget same (record { host = tt; port = tt; path = path; query = query })

-- so is the target at an address or a known host
pub remote-is : (hosts : List KnownHost) (uri : UriParts) (t : Target) → Fits uri → remote hosts uri ≡ Ok t → IsTarget t
remote-is hosts uri t fits is = target_at_host-is hosts uri t fits.path fits.query uri.host fits.host is

-- the target of a result that has one
target_at-ok : (r : Result Target TargetError) (t : Target) → target_at r ≡ Some t → r ≡ Ok t
target_at-ok (Ok x) t is = let same : x ≡ t = cc in ap Ok same
target_at-ok (Err e) t is = absurd cc

-- an origin without a query is a target
without_query-is : (hosts : List KnownHost) (uri : UriParts) (query : List (List ℕ)) (t : Target) → Fits uri → without_query hosts uri query ≡ Some t → IsTarget t
without_query-is hosts uri [] t fits is = remote-is hosts uri t fits (target_at-ok (remote hosts uri) t is)
without_query-is hosts uri (part ∷ query) t fits is = absurd cc

-- what is read as an origin is a target
origin_at-is : (hosts : List KnownHost) (r : Result UriParts UriError) (t : Target) → ((uri : UriParts) → r ≡ Ok uri → Fits uri) → origin_at hosts r ≡ Some t → IsTarget t
origin_at-is hosts (Err e) t fits is = absurd cc
origin_at-is hosts (Ok uri) t fits is = without_query-is hosts uri uri.query t (fits uri refl) is

-- the origin of a map is the one that was read
map_with-origin : (prefix : Option (List (List ℕ))) (origin : Option Target) (m : Map) → map_with prefix origin ≡ Some m → origin ≡ Some m.origin
map_with-origin None origin m is = absurd cc
map_with-origin (Some prefix) None m is = absurd cc
map_with-origin (Some prefix) (Some origin) m is = let same : origin ≡ m.origin = cc in ap Some same

-- the origin of a map that was read is a target
map_read-is : (hosts : List KnownHost) (pair : Pair) (m : Map) → map_read hosts pair ≡ Some m → IsTarget m.origin
map_read-is hosts pair m is = origin_at-is hosts (uri_of pair.1) m.origin (uri_of-fits pair.1) (map_with-origin (prefix_of pair.0) (origin_at hosts (uri_of pair.1)) m is)

-- the first and the rest of a list that was read
all_of-parts : {A : Type 0} (first : Option A) (rest : List (Option A)) (all : List A) → all_of (first ∷ rest) ≡ Some all → (x : A) × (xs : List A) × (first ≡ Some x) × (all_of rest ≡ Some xs) × (x ∷ xs ≡ all)
all_of-parts None rest all is = absurd cc
all_of-parts (Some x) rest all is = go (all_of rest) refl is
  where
    go : (o : Option _) → all_of rest ≡ o → option_map (λ xs. x ∷ xs) o ≡ Some all → (y : _) × (xs : List _) × (Some x ≡ Some y) × (all_of rest ≡ Some xs) × (y ∷ xs ≡ all)
    go None e f = absurd cc
    go (Some xs) e f = (x, xs, refl, e, cc)

-- and so are those of a list of maps that was read
all-is : (hosts : List KnownHost) (pairs : List Pair) (maps : List Map) → all_of (map (map_read hosts) pairs) ≡ Some maps → HaveTargets maps
all-is hosts [] maps is = let same : [] ≡ maps = cc in subst HaveTargets same tt
all-is hosts (pair ∷ pairs) maps is =
    let (m, ms, of_first, of_rest, same) = all_of-parts (map_read hosts pair) (map (map_read hosts) pairs) maps is in
    subst HaveTargets same (map_read-is hosts pair m of_first, all-is hosts pairs ms of_rest)

-- the origins of the maps that were read are targets
pub maps-are : (hosts : List KnownHost) (pairs : List Pair) (maps : List Map) → ok_or (all_of (map (map_read hosts) pairs)) Unreadable ≡ Ok maps → HaveTargets maps
maps-are hosts pairs maps is = all-is hosts pairs maps (read-some Unreadable (all_of (map (map_read hosts) pairs)) maps is)
