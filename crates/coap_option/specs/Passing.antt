-- The remaining options of a message, each in its place, after those that were passed.
use Rattle.std.specs.Prelude.{◌≡◌, ℕ, ◌==◌, ◌+◌, ◌^◌, ◌<◌, ◌≤◌, Bool, true, List, [], ◌∷◌, length, map, filter, if◌then◌else◌}
use Rattle.coap_message.specs.declared.options.Opt.{Opt}
use Rattle.coap_message.specs.Options.{AreOptions}
use Rattle.coap_option.specs.declared.places.Run.{Run}
use Rattle.coap_option.specs.Places.{PlacedOption}

-- how many options with the same number come before an option, by the run after the options passed
abbrev pub before_of : Run → Opt → ℕ
before_of run o = if o.number == run.number then run.count else 0

-- the run after the option
abbrev pub run_behind : Run → Opt → Run
run_behind run o = record { number = o.number; count = before_of run o + 1 }

-- the places of the options after a run
abbrev pub places_after : Run → List Opt → List PlacedOption
places_after run [] = []
places_after run (o ∷ os) =
    record { option = o; before = before_of run o } ∷ places_after (run_behind run o) os

-- the options after a run for which, in their places, a test holds
abbrev pub picked_after : (PlacedOption → Bool) → Run → List Opt → List Opt
picked_after test run left = map (λ p. p.option) (filter test (places_after run left))

-- the remaining options are in order, and few enough to be counted
pub record IsAt (left : List Opt) (run : Run) : Type 0 where
  pub in_order : AreOptions run.number left
  pub within : run.count + length left < 2 ^ 64

-- the test holds for no option below the first number, nor for one above the second
abbrev pub HoldsWithin : (PlacedOption → Bool) → ℕ → ℕ → Type 0
HoldsWithin test least greatest =
    (p : PlacedOption)
    → p.option.number < 65536
    → test p ≡ true
    → (least ≤ p.option.number) × (p.option.number ≤ greatest)
