-- How long a message that was seen is remembered (RFC 7252, 4.8.2).
use Rattle.std.specs.Prelude.{ℕ, ◌+◌, Bool, nat_lt}

-- what was kept at the time `at` is live at the time `now` while less than its lifetime has passed
abbrev pub lives : ℕ → ℕ → ℕ → Bool
lives lifetime at now = nat_lt now (at + lifetime)
