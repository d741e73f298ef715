-- The target that a map gives is a target.
use Rattle.std.proofs.Common.{◌≡◌, ℕ, suc, zero, Bool, true, false, cond, List, [], ◌∷◌, length, drop, nat_lt, Option, Some, None, refl, subst}
use Rattle.std.specs.List.{AllByRecursion}
use Rattle.coap_target.specs.declared.map.Map.{Map}
use Rattle.coap_endpoint.specs.Target.{IsShort, IsTarget}
use Rattle.coap_target.specs.Routes.{begins, longer, map_of, mapped}
use Rattle.coap_endpoint.proofs.Lists.{All-append}

-- what holds for each item holds for each after the first `n`
All-drop : (P : List ℕ → Type 0) (n : ℕ) (xs : List (List ℕ)) → AllByRecursion P xs → AllByRecursion P (drop n xs)
All-drop P zero xs all = all
All-drop P (suc n) [] all = tt
All-drop P (suc n) (x ∷ xs) all = All-drop P n xs all.1

-- the map found for a path is one of the maps
pub All-map_of : (P : Map → Type 0) (maps : List Map) (path : List (List ℕ)) (m : Map) → AllByRecursion P maps → map_of maps path ≡ Some m → P m
All-map_of P [] path m all found = absurd cc
All-map_of P (n ∷ maps) path m all found = go (λ later e. All-map_of P maps path later all.1 e) (begins n.prefix path) (map_of maps path) refl found
  where
    pick : (t : Bool) (later : Map) → P later → cond t (Some later) (Some n) ≡ Some m → P m
    pick true later holds is = subst P (let same : later ≡ m = cc in same) holds
    pick false later holds is = subst P (let same : n ≡ m = cc in same) all.0

    go : ((later : Map) → map_of maps path ≡ Some later → P later) → (b : Bool) (rest : Option Map) → map_of maps path ≡ rest → cond b (longer n rest) rest ≡ Some m → P m
    go holds true None e is = subst P (let same : n ≡ m = cc in same) all.0
    go holds true (Some later) e is = pick (nat_lt (length n.prefix) (length later.prefix)) later (holds later e) is
    go holds false None e is = absurd cc
    go holds false (Some later) e is = subst P (let same : later ≡ m = cc in same) (holds later e)

-- a path and a query are mapped to a target
pub mapped-is : (path query : List (List ℕ)) (m : Map) → IsTarget m.origin → AllByRecursion IsShort path → AllByRecursion IsShort query → IsTarget (mapped path query m)
mapped-is path query m is of_path of_query = record {
  host = is.host;
  port = tt;
  path = All-append IsShort m.origin.path (drop (length m.prefix) path) is.path (All-drop IsShort (length m.prefix) path of_path);
  query = of_query;
}
