-- Room that is left behind bytes.
use Rattle.std.specs.Prelude.{◌≡◌, ℕ, ◌+◌, ◌<◌, Option, None, Some}

-- so many bytes leave this of a room, or there is less room than that
abbrev pub Leaves : ℕ → ℕ → Option ℕ → Type 0
Leaves room bytes None = room < bytes
Leaves room bytes (Some left) = left + bytes ≡ room
