-- The least number of those that stand under less than so many, found key by key.
use Rattle.std.proofs.Common.{◌≡◌, ℕ, ◌-◌, ◌<◌, ◌≤◌, ◌^◌, List, true, false, Option, Some, None}
use Rattle.std.specs.Prelude.{◌⊎◌}
use Rattle.ordered_index.specs.Ordered.{Pair, is_before, is_in}

-- how far an key is from the last
abbrev pub owners_left : Option Pair → ℕ
owners_left None = 0
owners_left (Some p) = 2 ^ 64 - p.0

-- it is found, and no greater
abbrev IsFound : Option ℕ → ℕ → Type 0
IsFound None m = ⊥
IsFound (Some n) m = n ≤ m

-- its key is still to come
abbrev IsAhead : Option Pair → Pair → Type 0
IsAhead None p = ⊥
IsAhead (Some q) p = q.0 ≤ p.0

-- the pair that comes next is the first of its key
abbrev IsNext : List Pair → Option Pair → Type 0
IsNext pairs None = Unit {0}
IsNext pairs (Some q) = (is_in q pairs ≡ true) × ((p : Pair) → is_in p pairs ≡ true → q.0 ≤ p.0 → is_before p q ≡ false)

-- what was found stands under less than so many
abbrev StandsUnder : ℕ → List Pair → Option ℕ → Type 0
StandsUnder most pairs None = Unit {0}
StandsUnder most pairs (Some n) = (c : ℕ) × (c < most) × (is_in (c, n) pairs ≡ true)

-- how far the keys were gone through
pub record AreSeen (most : ℕ) (pairs : List Pair) (first : Option ℕ) (next : Option Pair) : Type 0 where
  pub coming : IsNext pairs next
  pub under : StandsUnder most pairs first
  pub low : (p : Pair) → is_in p pairs ≡ true → p.0 < most → IsFound first p.1 ⊎ IsAhead next p
