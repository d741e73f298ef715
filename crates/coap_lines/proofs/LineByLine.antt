-- Steps through an input: what its lines ask for, depending on the next one.
use Rattle.std.proofs.Common.{◌≡◌, ℕ, ◌+◌, ◌^◌, ◌<◌, ◌≤◌, true, false, List, Some, None, refl, le-ltb, lt-ltb}
use Rattle.coap_model.specs.Runs.{Turn}
use Rattle.coap_lines.specs.declared.reading.input.Next.TheVariants.{End, Line, TooLong}
use Rattle.coap_lines.specs.Lines.{IsNext, is_skipped, lines_of}
use Rattle.coap_lines.specs.Scripts.{all_done, bad_at, script_from, with_turn}
use Rattle.coap_lines.specs.Turns.{greatest, turn_of}

module _ (number last events : ℕ) (input left line : List ℕ) where
  -- no line is left
  pub step-end : IsNext input (Some left) line End → script_from number last events (lines_of input) ≡ all_done
  unfolding script_from
  step-end next = rw next refl

  -- a line that is too long
  pub step-long : IsNext input (Some left) line TooLong → script_from number last events (lines_of input) ≡ bad_at number
  unfolding script_from
  step-long (long, more, lines, is, taken) = rw (lines, is) refl

  -- a line whose number is too great
  pub step-many : IsNext input (Some left) line Line → greatest < number → script_from number last events (lines_of input) ≡ bad_at number
  unfolding script_from
  step-many next above = rw (next.0, next.1, lt-ltb greatest number above) refl

  -- a line that is skipped
  pub step-skip : IsNext input (Some left) line Line → number ≤ greatest → is_skipped line ≡ true → script_from number last events (lines_of input) ≡ script_from (number + 1) last events (lines_of left)
  unfolding script_from
  step-skip next within skipped = rw (next.0, next.1, le-ltb greatest number within, skipped) refl

  -- a bad event
  pub step-bad : IsNext input (Some left) line Line → number ≤ greatest → is_skipped line ≡ false → turn_of last line ≡ None → script_from number last events (lines_of input) ≡ bad_at number
  unfolding script_from
  step-bad next within other none = rw (next.0, next.1, le-ltb greatest number within, other, none) refl

  -- an event
  pub step-turn : (turn : Turn) → IsNext input (Some left) line Line → number ≤ greatest → is_skipped line ≡ false → turn_of last line ≡ Some turn → events < 2 ^ 63 → script_from number last events (lines_of input) ≡ with_turn turn (script_from (number + 1) turn.now (events + 1) (lines_of left))
  unfolding script_from
  step-turn turn next within other is few = rw (next.0, next.1, le-ltb greatest number within, other, is, lt-ltb events (2 ^ 63) few) refl

  -- an event after the most events that a proxy handles
  pub step-full : (turn : Turn) → IsNext input (Some left) line Line → number ≤ greatest → is_skipped line ≡ false → turn_of last line ≡ Some turn → 2 ^ 63 ≤ events → script_from number last events (lines_of input) ≡ bad_at number
  unfolding script_from
  step-full turn next within other is many = rw (next.0, next.1, le-ltb greatest number within, other, is, le-ltb events (2 ^ 63) many) refl
