-- A loop over maps that keeps the best so far.
use Rattle.std.proofs.Common.{◌≡◌, ℕ, ◌+◌, ◌<◌, Bool, true, false, cond, nat_lt, List, ◌∷◌, length, drop, get_or, Option, Some, None, refl, sym, ap, ◌∙◌, arith}
use Rattle.std.proofs.lemmas.Bool.{ltb-true, ltb-false, lt-ltb, le-ltb}
use Rattle.std.proofs.lemmas.List.{drop_more}
use Rattle.coap_target.specs.declared.map.Map.{Map}
use Rattle.coap_target.specs.Routes.{begins, is_longer, longer, map_of}

-- the better of the best so far and what is found later
abbrev pub best_of : Option Map → Option Map → Option Map
best_of None later = later
best_of (Some m) later = longer m later

-- a map that is longer than the best so far replaces it
replaces : (best : Option Map) (m : Map) (later : Option Map) → is_longer m best ≡ true → best_of best (longer m later) ≡ longer m later
replaces None m later is = refl
replaces (Some b) m None is = rw is refl
replaces (Some b) m (Some n) is = go (nat_lt (length m.prefix) (length n.prefix)) refl
  where
    go : (t : Bool) → nat_lt (length m.prefix) (length n.prefix) ≡ t → longer b (cond t (Some n) (Some m)) ≡ cond t (Some n) (Some m)
    go true less =
        let much : nat_lt (length b.prefix) (length n.prefix) ≡ true = lt-ltb _ _ (omega (arith, ltb-true _ _ less, ltb-true _ _ is)) in
        rw much refl
    go false more = rw is refl

-- one that isn't is passed over
stays : (best : Option Map) (m : Map) (later : Option Map) → is_longer m best ≡ false → best_of best (longer m later) ≡ best_of best later
stays None m later is = absurd cc
stays (Some b) m None is = rw is refl
stays (Some b) m (Some n) is = go (nat_lt (length m.prefix) (length n.prefix)) refl
  where
    go : (t : Bool) → nat_lt (length m.prefix) (length n.prefix) ≡ t → longer b (cond t (Some n) (Some m)) ≡ longer b (Some n)
    go true less = refl
    go false more =
        let short : nat_lt (length b.prefix) (length n.prefix) ≡ false = le-ltb _ _ (omega (arith, ltb-false _ _ more, ltb-false _ _ is)) in
        rw (is, short) refl

-- the loop arrives at the map at `i`
module _ (maps : List Map) (path : List (List ℕ)) (i : ℕ) (m : Map) (within : i < length maps) (item : m ≡ get_or maps i m) where
  -- it is the first of the remaining ones
  more : drop i maps ≡ m ∷ drop (i + 1) maps
  more = drop_more maps i m within ∙ ap (λ (x : Map). x ∷ drop (i + 1) maps) (sym item)

  -- if it is longer than the best, and begins the path, it becomes the best
  best_of-takes : (best : Option Map) → is_longer m best ≡ true → begins m.prefix path ≡ true → best_of best (map_of (drop i maps) path) ≡ best_of (Some m) (map_of (drop (i + 1) maps) path)
  best_of-takes best is holds = rw (more, holds) (replaces best m (map_of (drop (i + 1) maps) path) is)

  -- if it isn't longer, it is passed over
  best_of-shorter : (best : Option Map) → is_longer m best ≡ false → best_of best (map_of (drop i maps) path) ≡ best_of best (map_of (drop (i + 1) maps) path)
  best_of-shorter best is = rw more (go (begins m.prefix path))
    where
      go : (t : Bool) → best_of best (cond t (longer m (map_of (drop (i + 1) maps) path)) (map_of (drop (i + 1) maps) path)) ≡ best_of best (map_of (drop (i + 1) maps) path)
      go true = stays best m (map_of (drop (i + 1) maps) path) is
      go false = refl

  -- if it doesn't begin the path, it is passed over
  best_of-other : (best : Option Map) → begins m.prefix path ≡ false → best_of best (map_of (drop i maps) path) ≡ best_of best (map_of (drop (i + 1) maps) path)
  best_of-other best fails = rw (more, fails) refl
