-- The map that is found for a path wins.
use Rattle.std.proofs.Common.{◌≡◌, ℕ, ◌<◌, ◌≤◌, Bool, true, false, cond, nat_lt, List, [], ◌∷◌, length, Option, Some, None, refl, sym, ap, subst, arith}
use Rattle.std.specs.List.{AllByRecursion}
use Rattle.std.proofs.lemmas.Bool.{ltb-true, ltb-false}
use Rattle.coap_target.specs.declared.map.Map.{Map}
use Rattle.coap_target.specs.Routes.{begins, longer, map_of}
use Rattle.coap_target.specs.Winner.{Wins}
use Rattle.coap_endpoint.proofs.Lists.{All-append, All-weaken}

-- if none is found, no prefix begins the path
pub map_of-none : (maps : List Map) (path : List (List ℕ)) → map_of maps path ≡ None → AllByRecursion (λ m. begins m.prefix path ≡ false) maps
map_of-none [] path e = tt
map_of-none (m ∷ maps) path e = go (λ f. map_of-none maps path f) (begins m.prefix path) refl (map_of maps path) refl e
  where
    pick : (t : Bool) (n : Map) → cond t (Some n) (Some m) ≡ None → ⊥
    pick true n f = absurd cc
    pick false n f = absurd cc

    go : (map_of maps path ≡ None → AllByRecursion (λ k. begins k.prefix path ≡ false) maps) → (b : Bool) → begins m.prefix path ≡ b → (rest : Option Map) → map_of maps path ≡ rest → cond b (longer m rest) rest ≡ None → (begins m.prefix path ≡ false) × AllByRecursion (λ k. begins k.prefix path ≡ false) maps
    go none true is None f g = absurd cc
    go none true is (Some n) f g = absurd (pick (nat_lt (length m.prefix) (length n.prefix)) n g)
    go none false is None f g = (is, none f)
    go none false is (Some n) f g = absurd cc

-- one more map in front
module _ (m : Map) (maps : List Map) (path : List (List ℕ)) where
  -- it wins if no prefix of the others begins the path
  alone : begins m.prefix path ≡ true → AllByRecursion (λ k. begins k.prefix path ≡ false) maps → Wins (m ∷ maps) path m
  alone is none = record {
    earlier = [];
    later = maps;
    among = refl;
    begins_path = is;
    longer_than_earlier = tt;
    as_long_as_later = All-weaken (λ k. begins k.prefix path ≡ false) (λ k. begins k.prefix path ≡ true → length k.prefix ≤ length m.prefix) maps (λ k no' yes'. absurd cc) none;
  }

  -- it is passed over for a later one that wins
  passed : (n : Map) → (begins m.prefix path ≡ true → length m.prefix < length n.prefix) → Wins maps path n → Wins (m ∷ maps) path n
  passed n less wins = record {
    earlier = m ∷ wins.earlier;
    later = wins.later;
    among = ap (λ (xs : List Map). m ∷ xs) wins.among;
    begins_path = wins.begins_path;
    longer_than_earlier = (less, wins.longer_than_earlier);
    as_long_as_later = wins.as_long_as_later;
  }

  -- it wins if its prefix is at least as long as that of the winner among the others
  instead : (n : Map) → begins m.prefix path ≡ true → length n.prefix ≤ length m.prefix → Wins maps path n → Wins (m ∷ maps) path m
  instead n is most wins = record {
    earlier = [];
    later = maps;
    among = refl;
    begins_path = is;
    longer_than_earlier = tt;
    as_long_as_later = subst (AllByRecursion (λ k. begins k.prefix path ≡ true → length k.prefix ≤ length m.prefix)) (sym wins.among)
        (All-append (λ k. begins k.prefix path ≡ true → length k.prefix ≤ length m.prefix) wins.earlier (n ∷ wins.later)
        (All-weaken (λ k. begins k.prefix path ≡ true → length k.prefix < length n.prefix) (λ k. begins k.prefix path ≡ true → length k.prefix ≤ length m.prefix) wins.earlier (λ k holds yes'. omega (arith, holds yes', most)) wins.longer_than_earlier)
        (λ yes'. most, All-weaken (λ k. begins k.prefix path ≡ true → length k.prefix ≤ length n.prefix) (λ k. begins k.prefix path ≡ true → length k.prefix ≤ length m.prefix) wins.later (λ k holds yes'. omega (arith, holds yes', most)) wins.as_long_as_later));
  }

-- the map that is found wins
pub map_of-wins : (maps : List Map) (path : List (List ℕ)) (m : Map) → map_of maps path ≡ Some m → Wins maps path m
map_of-wins [] path m e = absurd cc
map_of-wins (n ∷ maps) path m e = go (λ k f. map_of-wins maps path k f) (begins n.prefix path) refl (map_of maps path) refl e
  where
    pick : begins n.prefix path ≡ true → (k : Map) → Wins maps path k → (t : Bool) → nat_lt (length n.prefix) (length k.prefix) ≡ t → cond t (Some k) (Some n) ≡ Some m → Wins (n ∷ maps) path m
    pick is k wins true less f =
        let same : k ≡ m = cc in
        subst (Wins (n ∷ maps) path) same (passed n maps path k (λ yes'. ltb-true (length n.prefix) (length k.prefix) less) wins)
    pick is k wins false most f =
        let same : n ≡ m = cc in
        subst (Wins (n ∷ maps) path) same (instead n maps path k is (ltb-false (length n.prefix) (length k.prefix) most) wins)

    go : ((k : Map) → map_of maps path ≡ Some k → Wins maps path k) → (b : Bool) → begins n.prefix path ≡ b → (rest : Option Map) → map_of maps path ≡ rest → cond b (longer n rest) rest ≡ Some m → Wins (n ∷ maps) path m
    go wins true is None f g =
        let same : n ≡ m = cc in
        subst (Wins (n ∷ maps) path) same (alone n maps path is (map_of-none maps path f))
    go wins true is (Some k) f g = pick is k (wins k f) (nat_lt (length n.prefix) (length k.prefix)) refl g
    go wins false is None f g = absurd cc
    go wins false is (Some k) f g =
        let same : k ≡ m = cc in
        subst (Wins (n ∷ maps) path) same (passed n maps path k (λ yes'. absurd cc) (wins k f))
