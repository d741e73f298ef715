-- The ranges of moments and draws.
use Rattle.std.specs.Prelude.{◌≤◌, ◌^◌, List}
use Rattle.std.specs.List.{AllByRecursion}
use Rattle.coap_model.specs.History.{Observation}

-- a moment is at most 2^62 milliseconds, and a draw at most 1,000
abbrev pub IsInRange : Observation → Type 0
IsInRange e = (e.now ≤ 2 ^ 62) × (e.draw ≤ 1000)

abbrev pub AreInRange : List Observation → Type 0
AreInRange history = AllByRecursion IsInRange history
