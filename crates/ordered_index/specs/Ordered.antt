-- Indexes: sets of pairs, each a key and a number.
use Rattle.std.specs.Prelude.{◌≡◌, ℕ, ◌+◌, ◌==◌, ◌<◌, ◌≤◌, ◌&&◌, ◌||◌, Bool, true, false, not, nat_lt, if◌then◌else◌, List, [], ◌∷◌, Option, Some, None}
use Rattle.std.specs.List.{AllByRecursion}

-- a key, and the number of an item that has it
abbrev pub Pair : Type 0
Pair = ℕ × ℕ

-- a is before b: its first number is less, or equal and its second less
abbrev pub is_before : Pair → Pair → Bool
is_before a b = nat_lt a.0 b.0 || (a.0 == b.0 && nat_lt a.1 b.1)

abbrev pub is_pair : Pair → Pair → Bool
is_pair a b = (a.0 == b.0) && (a.1 == b.1)

abbrev pub is_in : Pair → List Pair → Bool
is_in p [] = false
is_in p (q ∷ qs) = is_pair p q || is_in p qs

-- each pair is before all that follow
abbrev pub AreRising : List Pair → Type 0
AreRising [] = Unit {0}
AreRising (p ∷ ps) = AllByRecursion (λ q. is_before p q ≡ true) ps × AreRising ps

pub record OrderedIndex : Type 0 where
  pub pairs : List Pair
  -- the most pairs that it can hold
  pub limit : ℕ
  -- what spreads its keys, or 0 if nothing does
  pub seed : ℕ

abbrev pub empty_index : ℕ → OrderedIndex
empty_index limit = record { pairs = []; limit = limit; seed = 0 }

-- one whose keys a seed spreads
abbrev pub seeded_index : ℕ → ℕ → OrderedIndex
seeded_index seed limit = record { pairs = []; limit = limit; seed = seed }

-- no pair is before this one
abbrev pub IsLeast : List Pair → Option Pair → Type 0
IsLeast pairs None = pairs ≡ []
IsLeast pairs (Some p) =
    (is_in p pairs ≡ true) × ((q : Pair) → is_in q pairs ≡ true → is_before q p ≡ false)

-- the least number of a key that is greater than another number
abbrev pub IsNextOf : ℕ → ℕ → List Pair → Option ℕ → Type 0
IsNextOf key after pairs None = (n : ℕ) → after < n → is_in (key, n) pairs ≡ false
IsNextOf key after pairs (Some m) =
    (after < m)
    × (is_in (key, m) pairs ≡ true)
    × ((n : ℕ) → after < n → is_in (key, n) pairs ≡ true → m ≤ n)

-- the first pair after another
abbrev pub IsFirstAfter : Pair → List Pair → Option Pair → Type 0
IsFirstAfter p pairs None = (q : Pair) → is_in q pairs ≡ true → is_before p q ≡ false
IsFirstAfter p pairs (Some r) =
    (is_in r pairs ≡ true)
    × (is_before p r ≡ true)
    × ((q : Pair) → is_in q pairs ≡ true → is_before p q ≡ true → is_before q r ≡ false)

-- ---- how many numbers a key has

-- one if it holds, else zero
abbrev pub one_if : Bool → ℕ
one_if b = if b then 1 else 0

-- the number of pairs with this key
abbrev pub many_of : ℕ → List Pair → ℕ
many_of key [] = 0
many_of key (p ∷ ps) = one_if (p.0 == key) + many_of key ps

-- a pair comes before those of a key, or, if `past`, no later than they do
abbrev pub is_left : Bool → ℕ → Pair → Bool
is_left past key p = nat_lt p.0 key || (past && p.0 == key)

-- ---- which key a number has, if any

abbrev pub is_key : ℕ → Option ℕ → Bool
is_key key None = false
is_key key (Some o) = key == o

abbrev pub one_of : {A : Type 0} → Option A → ℕ
one_of None = 0
one_of (Some a) = 1

-- the pairs with this number are exactly the one with its key, if it has one
abbrev pub IsKeyIn : List Pair → ℕ → Option ℕ → Type 0
IsKeyIn pairs number key = (o : ℕ) → is_in (o, number) pairs ≡ is_key o key

-- a number gets this key, and the other numbers keep theirs
abbrev pub IsRekeyed : List Pair → List Pair → ℕ → Option ℕ → Type 0
IsRekeyed old new number key =
    (o n : ℕ) → is_in (o, n) new ≡ (if n == number then is_key o key else is_in (o, n) old)

-- ---- replacing one pair by another

-- there is a pair, and it is this one
abbrev pub is_some_pair : Pair → Option Pair → Bool
is_some_pair p None = false
is_some_pair p (Some q) = is_pair p q

-- the old pair is removed, if there is one, and then the new one is added, if there is one
abbrev pub IsReplaced : List Pair → List Pair → Option Pair → Option Pair → Type 0
IsReplaced old new was is =
    (p : Pair)
    → is_in p new
    ≡ (is_some_pair p is || (not (is_some_pair p was) && is_in p old))
