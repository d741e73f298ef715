-- What a whole input asks for.
use Rattle.std.specs.Prelude.{◌≡◌, ℕ, false, ◌+◌, ◌^◌, ◌||◌, nat_lt, List, [], ◌∷◌, Option, Some, None, if◌then◌else◌}
use Rattle.coap_model.specs.Runs.{Turn}
use Rattle.coap_lines.specs.Lines.{is_skipped, is_too_long, lines_of}
use Rattle.coap_lines.specs.Turns.{greatest, turn_of}

-- the turns up to the first bad line, and the number of that line, if there is one
pub record Script : Type 0 where
  pub turns : List Turn
  pub bad : Option ℕ

abbrev pub all_done : Script
all_done = record { turns = []; bad = None }

abbrev pub bad_at : ℕ → Script
bad_at number = record { turns = []; bad = Some number }

abbrev pub with_turn : Turn → Script → Script
with_turn turn script = record { turns = turn ∷ script.turns; bad = script.bad }

-- A line that is neither skipped nor too long asks for its event; `rest` gives what the lines after
-- it ask for, after the moment of that event. A proxy handles at most 2^63 events.
abbrev pub with_event : ℕ → ℕ → Option Turn → (ℕ → Script) → Script
with_event number events None rest = bad_at number
with_event number events (Some turn) rest =
    if nat_lt events (2 ^ 63) then with_turn turn (rest turn.now) else bad_at number

-- what lines, numbered from `number` on, ask for after the moment `last` and `events` events
unfoldable pub script_from : ℕ → ℕ → ℕ → List (List ℕ) → Script
script_from number last events [] = all_done
script_from number last events (line ∷ lines) =
    if is_too_long line || nat_lt greatest number then bad_at number
    else if is_skipped line then script_from (number + 1) last events lines
    else with_event number events (turn_of last line)
    (λ now. script_from (number + 1) now (events + 1) lines)

-- the first of these lines isn't skipped, and asks for this turn
abbrev pub AsksFor : ℕ → ℕ → ℕ → List (List ℕ) → Turn → Type 0
AsksFor number last events [] turn = ⊥
AsksFor number last events (line ∷ lines) turn = (is_skipped line ≡ false)
    × (script_from number last events (line ∷ lines)
    ≡ with_turn turn (script_from (number + 1) turn.now (events + 1) lines))

-- what an input asks a new proxy to do, with its lines numbered from 1
abbrev pub script_of : List ℕ → Script
script_of input = script_from 1 0 0 (lines_of input)
