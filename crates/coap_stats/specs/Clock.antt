-- A clock that stands still, and how often counts are written.
use Rattle.std.specs.Prelude.{ℕ, ◌+◌, ◌*◌, ◌==◌, ◌&&◌, min, max, Bool, Option, Some, None, if◌then◌else◌}
use Rattle.coap_stats.specs.declared.clock.StandingClock.{StandingClock}

abbrev pub no_turn : StandingClock
no_turn = record { last = 0; turns = 0 }

-- how many turns in a row at one moment show that it stands still
abbrev pub many : ℕ
many = 10000

-- one more turn at a moment: the number of those at the same moment, up to that many
abbrev pub with_turn : ℕ → StandingClock → StandingClock
with_turn now c = record {
  last = now;
  turns = if now == c.last then min (c.turns + 1) many else 1;
}

-- that turn is the one that shows it
abbrev pub stops : ℕ → StandingClock → Bool
stops now c = (now == c.last) && (c.turns + 1 == many)

-- the milliseconds of a period that is given in seconds, or isn't: from a second to a day
abbrev pub period_of : Option ℕ → ℕ
period_of None = 60000
period_of (Some seconds) = max (min seconds 86400) 1 * 1000
