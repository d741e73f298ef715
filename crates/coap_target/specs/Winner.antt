-- Which map is the one for a path.
use Rattle.std.specs.Prelude.{◌≡◌, ℕ, true, ◌<◌, ◌≤◌, List, ◌∷◌, ◌++◌, length}
use Rattle.std.specs.List.{AllByRecursion}
use Rattle.coap_target.specs.declared.map.Map.{Map}
use Rattle.coap_target.specs.Routes.{begins}

-- Its prefix begins the path. Any earlier map whose prefix also does has a shorter one, and no
-- such later map has a longer one.
pub record Wins (maps : List Map) (path : List (List ℕ)) (m : Map) : Type 0 where
  pub earlier : List Map
  pub later : List Map
  pub among : maps ≡ earlier ++ m ∷ later
  pub begins_path : begins m.prefix path ≡ true
  pub longer_than_earlier :
      AllByRecursion (λ n. begins n.prefix path ≡ true → length n.prefix < length m.prefix) earlier
  pub as_long_as_later :
      AllByRecursion (λ n. begins n.prefix path ≡ true → length n.prefix ≤ length m.prefix) later
