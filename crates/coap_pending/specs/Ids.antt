-- Message ids (RFC 7252, 4.4). Moments are in milliseconds.
use Rattle.std.specs.Prelude.{◌≡◌, ◌≢◌, ℕ, ◌+◌, ◌-◌, ◌/◌, ◌%◌, ◌<◌, ◌≤◌, ◌==◌, if◌then◌else◌, List, [], ◌∷◌, length, Option, None, Some}
use Rattle.std.specs.List.{AllByRecursion}
use Rattle.coap_pending.specs.declared.ids.Ids.{Ids}

-- the window of a moment
abbrev pub window : ℕ → ℕ
window now = now / 247000

-- the number of ids given in the window of a moment
abbrev pub given_in : ℕ → Ids → ℕ
given_in now ids = if ids.window == window now then ids.given else 0

-- the number of ids that can still be given in it
abbrev pub left_of : ℕ → Ids → ℕ
left_of now ids = 32768 - given_in now ids

-- the id that a call gives, unless none is left
abbrev pub next_of : ℕ → Ids → Option ℕ
next_of now ids = if left_of now ids == 0 then None else Some ids.following

-- the ids after a call: 65,535 is followed by 0
abbrev pub called : ℕ → Ids → Ids
called now ids =
    if left_of now ids == 0
    then ids
    else record {
      following = (ids.following + 1) % 65536;
      window = window now;
      given = given_in now ids + 1;
    }

-- ---- several calls

abbrev pub new_ids : ℕ → Ids
new_ids first = record { following = first; window = 0; given = 0 }

-- the ids after calls at these moments, latest first
abbrev pub after_calls : ℕ → List ℕ → Ids
after_calls first [] = new_ids first
after_calls first (now ∷ before) = called now (after_calls first before)

-- an id, and the moment at which it was given
pub record Given : Type 0 where
  pub at : ℕ
  pub id : ℕ

abbrev pub with_given : ℕ → Option ℕ → List Given → List Given
with_given now None given = given
with_given now (Some id) given = record { at = now; id = id } ∷ given

-- the ids that calls at these moments gave, latest first
abbrev pub given_by : ℕ → List ℕ → List Given
given_by first [] = []
given_by first (now ∷ before) =
    with_given now (next_of now (after_calls first before)) (given_by first before)

-- the number of them that were given in a window
abbrev pub count_in : ℕ → List Given → ℕ
count_in w [] = 0
count_in w (g ∷ before) = (if window g.at == w then 1 else 0) + count_in w before

-- moments never go back; the latest comes first
abbrev pub AreInOrder : List ℕ → Type 0
AreInOrder [] = Unit {0}
AreInOrder (now ∷ before) = AllByRecursion (λ m. m ≤ now) before × AreInOrder before

-- each differs from those given less than 247,000 ms before it
abbrev pub AreApart : List Given → Type 0
AreApart [] = Unit {0}
AreApart (g ∷ before) =
    AllByRecursion (λ b. g.at < b.at + 247000 → g.id ≢ b.id) before × AreApart before

-- each is one more than the one before it, modulo 65,536, starting from `first`
abbrev pub AreCounted : ℕ → List Given → Type 0
AreCounted first [] = Unit {0}
AreCounted first (g ∷ before) = (g.id ≡ (first + length before) % 65536) × AreCounted first before
