-- How many lines are written: 20 at once, and then 5 in a second.
use Rattle.std.specs.Prelude.{ℕ, ◌+◌, ◌*◌, ◌≤◌, nat_le, max, Bool, cond, if◌then◌else◌, List, [], ◌∷◌}

-- A limiter is known by the moment from which on 20 lines may be written at once. Each line puts it
-- off by 200 milliseconds; a line may be written unless 20 of them are still to pass.
abbrev pub allows : ℕ → ℕ → Bool
allows full_at now = nat_le full_at (now + 19 * 200)

abbrev pub counted : ℕ → ℕ → ℕ
counted full_at now = if allows full_at now then max full_at now + 200 else full_at

-- the moments at which lines were to be written, the newest first: what a limiter is after them
abbrev pub after : ℕ → List ℕ → ℕ
after full_at [] = full_at
after full_at (now ∷ before) = counted (after full_at before) now

-- how many of these lines were written
abbrev pub written : ℕ → List ℕ → ℕ
written full_at [] = 0
written full_at (now ∷ before) =
    cond (allows (after full_at before) now) 1 0 + written full_at before

-- moments from one on to another, which don't go back
abbrev pub AreWithin : ℕ → List ℕ → ℕ → Type 0
AreWithin first [] last = first ≤ last
AreWithin first (now ∷ before) last = (now ≤ last) × AreWithin first before now
