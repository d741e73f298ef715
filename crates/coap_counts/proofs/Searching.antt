-- A loop over maps that keeps the best of those that begin a path.
use Rattle.std.proofs.Common.{◌≡◌, ℕ, ◌+◌, ◌<◌, Bool, true, false, cond, nat_lt, List, ◌∷◌, length, drop, get_or, Option, Some, None, refl, sym, ap, ◌∙◌, arith}
use Rattle.std.proofs.lemmas.Bool.{ltb-true, ltb-false, lt-ltb, le-ltb}
use Rattle.std.proofs.lemmas.List.{drop_more}
use Rattle.coap_target.specs.declared.map.Map.{Map}
use Rattle.coap_target.specs.Routes.{begins, longer, map_of}
use Rattle.coap_target.proofs.MapSearch.{best_of}
use Rattle.coap_counts.specs.Search.{better}

-- one more map that begins the path is as good as the better of it and of the best so far
better-is : (best : Option Map) (m : Map) (later : Option Map) → best_of best (longer m later) ≡ best_of (better best m) later
better-is None m later = refl
better-is (Some b) m None = go (nat_lt (length b.prefix) (length m.prefix))
  where
    go : (t : Bool) → cond t (Some m) (Some b) ≡ best_of (cond t (Some m) (Some b)) None
    go true = refl
    go false = refl
better-is (Some b) m (Some n) = go (nat_lt (length b.prefix) (length m.prefix)) (nat_lt (length m.prefix) (length n.prefix)) refl refl
  where
    go : (t u : Bool) → nat_lt (length b.prefix) (length m.prefix) ≡ t → nat_lt (length m.prefix) (length n.prefix) ≡ u
        → longer b (cond u (Some n) (Some m)) ≡ best_of (cond t (Some m) (Some b)) (Some n)
    go true true less more =
        let far : nat_lt (length b.prefix) (length n.prefix) ≡ true = lt-ltb _ _ (omega (arith, ltb-true _ _ less, ltb-true _ _ more)) in
        rw (far, more) refl
    go true false less more = rw (less, more) refl
    go false true less more = refl
    go false false less more =
        let near : nat_lt (length b.prefix) (length n.prefix) ≡ false = le-ltb _ _ (omega (arith, ltb-false _ _ less, ltb-false _ _ more)) in
        rw (less, near) refl

-- the loop arrives at the map at `i`
module _ (maps : List Map) (path : List (List ℕ)) (i : ℕ) (m : Map) (within : i < length maps) (item : m ≡ get_or maps i m) where
  -- it is the first of the remaining ones
  more : drop i maps ≡ m ∷ drop (i + 1) maps
  more = drop_more maps i m within ∙ ap (λ (x : Map). x ∷ drop (i + 1) maps) (sym item)

  -- if it begins the path, the better of it and of the best so far is the best
  pub takes : (best : Option Map) → begins m.prefix path ≡ true → best_of best (map_of (drop i maps) path) ≡ best_of (better best m) (map_of (drop (i + 1) maps) path)
  takes best holds = rw (more, holds) (better-is best m (map_of (drop (i + 1) maps) path))

  -- if it doesn't, it is passed over
  pub passes : (best : Option Map) → begins m.prefix path ≡ false → best_of best (map_of (drop i maps) path) ≡ best_of best (map_of (drop (i + 1) maps) path)
  passes best fails = rw (more, fails) refl
