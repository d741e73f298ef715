-- The target of a request is a target: its parts fit into options.
use Rattle.std.proofs.Common.{◌≡◌, ℕ, ◌≤◌, nat_le, Bool, true, false, cond, List, [], ◌∷◌, length, map, Option, Some, None, option_map, Result, Ok, Err, ok_or, refl, sym, ap, subst}
use Rattle.std.specs.Char.{to_ascii_lowercase}
use Rattle.std.specs.List.{AllByRecursion}
use Rattle.std.specs.Str.{is_utf8}
use Rattle.std.proofs.lemmas.Bool.{and_parts, le-leb, leb-true}
use Rattle.std.proofs.lemmas.List.{length-map}
use Rattle.coap_message.specs.Message.{Message}
use Rattle.coap_option.specs.declared.side.Side.TheVariants.{Request}
use Rattle.coap_option.specs.Screening.{first_refused}
use Rattle.coap_endpoint.specs.declared.endpoint.Endpoint.{Endpoint}
use Rattle.coap_endpoint.specs.declared.endpoint.Ip.{Ip}
use Rattle.coap_target.specs.declared.error.TargetError.{TargetError}
use Rattle.coap_target.specs.declared.error.TargetError.TheVariants.{BadUri, NotProxied, NotFound}
use Rattle.coap_uri.specs.declared.error.UriError.{UriError}
use Rattle.coap_uri.specs.declared.error.UriError.TheVariants as uri_error
use Rattle.coap_target.specs.declared.map.Map.{Map}
use Rattle.coap_target.specs.declared.routes.Routes.{Routes}
use Rattle.coap_endpoint.specs.declared.target.Target.{Target}
use Rattle.coap_uri.specs.declared.uri.HostPart.{HostPart}
use Rattle.coap_uri.specs.declared.uri.HostPart.TheVariants.{Addr}
use Rattle.coap_uri.specs.declared.uri.UriParts.{UriParts}
use Rattle.coap_uri.specs.Address.{IsIp, ip_of}
use Rattle.coap_uri.proofs.AddressTexts.{ip_of-is}
use Rattle.coap_target.specs.Hosts.{is_own}
use Rattle.coap_target.specs.Request.{value_of, port_of, local, through, beyond, resolved, of_uri, by_uri, composed, is_coap, by_scheme, if_any, by_options, request_target}
use Rattle.coap_target.specs.Routes.{path_of, query_of, map_of, mapped, mapped_target, AreRoutes}
use Rattle.coap_endpoint.specs.Target.{IsShort, IsTarget}
use Rattle.coap_uri.specs.Uri.{is_port, is_short_host, host_or, host_of, uri_of}
use Rattle.coap_target.proofs.Origins.{Fits, host_text-short, remote-is, uri_of-fits}
use Rattle.coap_target.proofs.Screened.{path_of-short, uri_host-short, query_of-short}
use Rattle.coap_target.proofs.Targets.{All-map_of, mapped-is}

module _ (routes : Routes) (are : AreRoutes routes) (t : Target) where
  -- what a request to the proxy itself is mapped to
  local-is : (path query : List (List ℕ)) → AllByRecursion IsShort path → AllByRecursion IsShort query → local routes path query ≡ Ok t → IsTarget t
  local-is path query of_path of_query e = go (map_of routes.maps path) refl e
    where
      go : (o : Option Map) → map_of routes.maps path ≡ o → ok_or (option_map (mapped path query) o) NotFound ≡ Ok t → IsTarget t
      go None found f = absurd cc
      go (Some n) found f =
          let same : mapped path query n ≡ t = cc in
          subst IsTarget same (mapped-is path query n (All-map_of (λ k. IsTarget k.origin) routes.maps path n are found) of_path of_query)

  -- what a URI whose parts fit leads to, if its host isn't one of the proxy's own names
  beyond-is : (next : Option Endpoint) (uri : UriParts) → Fits uri → beyond next routes.hosts uri ≡ Ok t → IsTarget t
  beyond-is None uri fits e = remote-is routes.hosts uri t fits e
  beyond-is (Some next) uri fits e =
      let same : through next uri ≡ t = cc in
      subst IsTarget same (record { host = fits.text; port = fits.port; path = fits.path; query = fits.query })

  -- what a URI whose parts fit leads to
  resolved-is : (uri : UriParts) → Fits uri → resolved routes uri ≡ Ok t → IsTarget t
  resolved-is uri fits e = go (is_own routes.names uri.host) e
    where
      go : (b : Bool) → cond b (local routes uri.path uri.query) (beyond routes.next routes.hosts uri) ≡ Ok t → IsTarget t
      go true f = local-is uri.path uri.query fits.path fits.query f
      go false f = beyond-is routes.next uri fits f

  -- what a URI that was read leads to
  of_uri-is : (r : Result UriParts UriError) → ((uri : UriParts) → r ≡ Ok uri → Fits uri) → of_uri routes r ≡ Ok t → IsTarget t
  of_uri-is (Ok uri) fits e = resolved-is uri (fits uri refl) e
  of_uri-is (Err uri_error.Bad) short e = absurd cc
  of_uri-is (Err uri_error.Scheme) short e = absurd cc
  of_uri-is (Err uri_error.OutOfMemory) short e = absurd cc

  -- what a Proxy-Uri leads to
  by_uri-is : (text : List ℕ) → by_uri routes text ≡ Ok t → IsTarget t
  unfolding by_uri
  by_uri-is text e = go (is_utf8 text) e
    where
      go : (b : Bool) → cond b (of_uri routes (uri_of text)) (Err BadUri) ≡ Ok t → IsTarget t
      go true f = of_uri-is (uri_of text) (uri_of-fits text) f
      go false f = absurd cc

  -- a host on its own is as long as it is written
  host_or-short : (ip : Option Ip) (lower : List ℕ) → length lower ≤ 255 → is_short_host (host_or ip lower) ≡ true
  host_or-short None lower short = le-leb (length lower) 255 short
  host_or-short (Some ip) lower short = refl

  -- or it is an address
  host_or-is : (ip : Option Ip) (lower : List ℕ) → ((read : Ip) → ip ≡ Some read → IsIp read) → (read : Ip) → host_or ip lower ≡ Addr read → IsIp read
  host_or-is None lower are read is = absurd cc
  host_or-is (Some ip) lower are read is =
      let same : ip ≡ read = cc in
      are read (ap Some same)

  module _ (m : Message) (screened : first_refused Request m.options ≡ None) where
    -- what the Uri options lead to
    composed-is : (host : Option (List ℕ)) → value_of 3 m ≡ host → is_port (port_of m) ≡ true → composed routes m host ≡ Ok t → IsTarget t
    composed-is None at port e = local-is (path_of m) (query_of m) (path_of-short m screened) (query_of-short m screened) e
    composed-is (Some host) at port e =
        let lower : List ℕ = map to_ascii_lowercase host in
        let length-lower : length lower ≤ 255 = rw length-map (uri_host-short m host screened (sym at)) in
        let short = host_or-short (ip_of lower) lower length-lower in
        resolved-is (record { host = host_of host; port = port_of m; path = path_of m; query = query_of m })
        (record {
          host = short;
          text = host_text-short (host_of host) short (host_or-is (ip_of lower) lower (ip_of-is lower));
          port = leb-true (port_of m) 65535 (and_parts (nat_le 1 (port_of m)) (nat_le (port_of m) 65535) port).1;
          path = path_of-short m screened;
          query = query_of-short m screened;
        })
        e

    -- what a Proxy-Scheme leads to
    by_scheme-is : (scheme : List ℕ) → by_scheme routes m scheme ≡ Ok t → IsTarget t
    unfolding by_scheme
    by_scheme-is scheme e = go (is_coap scheme) (is_port (port_of m)) refl e
      where
        go : (b z : Bool) → is_port (port_of m) ≡ z → cond b (cond z (composed routes m (value_of 3 m)) (Err BadUri)) (Err NotProxied) ≡ Ok t → IsTarget t
        go true true port f = composed-is (value_of 3 m) refl port f
        go true false port f = absurd cc
        go false z port f = absurd cc

    -- a target that `if_any` gives is the one that it was given
    if_any-ok : (names : List HostPart) (r : Result Target TargetError) → if_any names r ≡ Ok t → r ≡ Ok t
    if_any-ok [] r f = absurd cc
    if_any-ok (name ∷ names) r f = f

    -- in each case
    by_options-is : (uri scheme : Option (List ℕ)) → by_options routes m uri scheme ≡ Ok t → IsTarget t
    by_options-is None None e = local-is (path_of m) (query_of m) (path_of-short m screened) (query_of-short m screened) e
    by_options-is None (Some scheme) e = by_scheme-is scheme (if_any-ok routes.names (by_scheme routes m scheme) e)
    by_options-is (Some uri) scheme e = by_uri-is uri (if_any-ok routes.names (by_uri routes uri) e)

-- the target of a request that was screened is a target
pub request_target-is : (routes : Routes) (m : Message) (t : Target) → AreRoutes routes → first_refused Request m.options ≡ None → request_target routes m ≡ Ok t → IsTarget t
unfolding request_target
request_target-is routes m t are screened e = by_options-is routes are t m screened (value_of 35 m) (value_of 39 m) e

-- the target of a request without proxy options is the mapped one
pub request_target-mapped : (routes : Routes) (m : Message) → value_of 35 m ≡ None → value_of 39 m ≡ None → request_target routes m ≡ ok_or (mapped_target routes m) NotFound
unfolding request_target mapped_target
request_target-mapped routes m uri scheme = rw (uri, scheme) refl
