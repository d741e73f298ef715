-- What is due: a moment, with the number of the item that is due then; and which item is due first.
use Rattle.std.specs.Prelude.{ℕ, ◌+◌, ◌==◌, ◌&&◌, ◌||◌, Bool, nat_lt, if◌then◌else◌, List, [], ◌∷◌, map, Option, Some, None}
use Rattle.coap_pending.specs.Table.{Numbered}

-- a is due before b: earlier, or at the same moment with a lower number
abbrev pub is_sooner : ℕ × ℕ → ℕ × ℕ → Bool
is_sooner a b = nat_lt a.0 b.0 || (a.0 == b.0 && nat_lt a.1 b.1)

-- the sooner of two
abbrev pub sooner_of : ℕ × ℕ → ℕ × ℕ → ℕ × ℕ
sooner_of a b = if is_sooner b a then b else a

-- the sooner of two, if either is due
abbrev pub sooner : Option (ℕ × ℕ) → Option (ℕ × ℕ) → Option (ℕ × ℕ)
sooner None b = b
sooner (Some a) None = Some a
sooner (Some a) (Some b) = Some (sooner_of a b)

-- what is due first
abbrev pub first_of : List (Option (ℕ × ℕ)) → Option (ℕ × ℕ)
first_of [] = None
first_of (x ∷ xs) = sooner x (first_of xs)

abbrev pub as_due : ℕ → Option ℕ → Option (ℕ × ℕ)
as_due number None = None
as_due number (Some at) = Some (at, number)

-- when a numbered item is due, given a function for when an item is due
abbrev pub due_row : {A : Type 0} → (A → Option ℕ) → Numbered A → Option (ℕ × ℕ)
due_row due x = as_due x.0 (due x.1)

-- which item of a table is due first: the least by moment, then by number
abbrev pub first_due : {A : Type 0} → (A → Option ℕ) → List (Numbered A) → Option (ℕ × ℕ)
first_due due items = first_of (map (due_row due) items)

-- the same item, due this many milliseconds later
abbrev pub later : ℕ → Option (ℕ × ℕ) → Option (ℕ × ℕ)
later ms None = None
later ms (Some d) = Some (d.0 + ms, d.1)
