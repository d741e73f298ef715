-- What a replay does: the turns that were done, the tables after them, and what was written for
-- them.
use Rattle.std.specs.Prelude.{◌≡◌, ◌≢◌, ◌⊎◌, ℕ, ◌+◌, ◌≤◌, ◌<◌, ◌^◌, ◌-◌, false, true, List, [], ◌∷◌, ◌++◌, length, Option, Some, None, Result, Ok, Err, IfOk, IfSome, Bool}
use Rattle.std.specs.Io.KnownBytes.{Appends}
use Rattle.coap_endpoint.specs.declared.endpoint.Endpoint.{Endpoint}
use Rattle.coap_model.specs.State.{State}
use Rattle.coap_model.specs.History.{Observation}
use Rattle.coap_model.specs.Events.{IsEvent}
use Rattle.coap_model.specs.Carries.{Carries}
use Rattle.coap_model.specs.Word.{KeepsItsWord}
use Rattle.coap_model.specs.Step.{step_of}
use Rattle.coap_model.specs.Runs.{Taken, turns_of, step_taken, Turn, AreTurns, Run, run_of}
use Rattle.coap_core.specs.Done.{wants_memory}
use Rattle.coap_replay.specs.declared.error.ReplayError.{ReplayError}
use Rattle.coap_replay.specs.declared.error.ReplayError.TheVariants.{BadEvent, OutOfMemory, Read, Write}
use Rattle.coap_replay.specs.declared.replays.Asked.{Asked}
use Rattle.coap_replay.specs.declared.replays.Asked.TheVariants.{End, Skip, Do}
use Rattle.coap_lines.specs.Lines.{IsBegun, IsLine, line_of, lines_of}
use Rattle.coap_lines.specs.Scripts.{AsksFor, Script, all_done, bad_at, script_from}
use Rattle.coap_lines.specs.Texts.{has, line_feed}
use Rattle.coap_lines.specs.Turns.{turn_seen, greatest}

-- ---- what is written

-- the line of the datagram that is sent, if one is sent
abbrev pub line_for : ℕ → Option Endpoint → List ℕ → List ℕ
line_for now None bytes = []
line_for now (Some to) bytes = line_of now to bytes

abbrev pub line_sent : State → Taken → List ℕ
line_sent w t = line_for t.turn.now (step_taken w t).report.send (step_taken w t).bytes

-- the lines that a proxy sends in these turns
abbrev pub output_of : State → List Taken → List ℕ
output_of w [] = []
output_of w (t ∷ turns) = line_sent w t ++ output_of (step_taken w t).state turns

-- ---- what is done

abbrev pub run_at : State → List Observation → Run
run_at w history = record { state = w; history = history }

-- the tables after turns
abbrev pub state_after : State → List Taken → State
state_after w turns = (run_of (run_at w []) turns).state

-- A proxy did these turns, whose moments never go back, and nothing else. It carries their history
-- in front of any that it carried before, and keeps its word about that.
pub record HasDone (w : State) (turns : List Taken) (v : State) : Type 0 where
  pub are : AreTurns w.last (turns_of turns)
  pub state : v ≡ state_after w turns
  pub carries : (history : List Observation) → Carries history w
      → Carries (run_of (run_at w history) turns).history v
  pub word : (history : List Observation) → Carries history w
      → KeepsItsWord (run_of (run_at w history) turns).history v

-- ---- what was asked for

-- what an input asks a proxy to do
abbrev pub script_for : State → List ℕ → Script
script_for w input = script_from 1 w.last w.events (lines_of input)

-- turns, and what the rest of the input asks for
abbrev pub with_turns : List Taken → Script → Script
with_turns turns script = record { turns = turns_of turns ++ script.turns; bad = script.bad }

-- what lines, numbered from `line` on, ask of a proxy that did these turns
abbrev pub script_after : State → List Taken → ℕ → List (List ℕ) → Script
script_after w turns line left =
    script_from line (state_after w turns).last (state_after w turns).events left

-- These turns are those of the lines of an input before the line with this number, and `left` are
-- the remaining lines: that one, if there is one, and those after it.
pub record IsUpTo (w : State) (input : List ℕ) (turns : List Taken) (line : ℕ)
    (left : List (List ℕ)) : Type 0 where
  pub front : List (List ℕ)
  pub split : lines_of input ≡ front ++ left
  pub number : line ≡ length front + 1
  pub asked : script_for w input ≡ with_turns turns (script_after w turns line left)

-- Whether a turn may run out of memory: its step may allocate. So a tick only does when it sends a
-- client its answer in a Confirmable message.
abbrev pub takes_some : State → Turn → Bool
takes_some w t = wants_memory (step_of w t.now t.draw true t.event)

-- the line with this number exists, and its event may follow these turns and may run out of memory
abbrev pub IsAtEvent : State → List ℕ → List Taken → ℕ → Type 0
IsAtEvent w input turns line = (left : List (List ℕ)) × (turn : Turn)
    × IsUpTo w input turns line left
    × AsksFor line (state_after w turns).last (state_after w turns).events left turn
    × (takes_some (state_after w turns) turn ≡ true)

-- nothing has been read or done yet, and the line is the first
abbrev pub IsAtStart : Option (List ℕ) → Option (List ℕ) → List Taken → ℕ → Type 0
IsAtStart input left turns line = (left ≡ input) × (turns ≡ []) × (line ≡ 1)

-- Part of the line after these turns was read, perhaps nothing, but not its line feed: `rest` is
-- what the reader has left, `done` are the lines before that line.
abbrev pub IsBroken : State → List ℕ → Option (List ℕ) → List Taken → Type 0
IsBroken w input None turns = ⊥
IsBroken w input (Some rest) turns = (done part : List ℕ)
    × (input ≡ done ++ part ++ rest) × (has line_feed part ≡ false)
    × IsUpTo w input turns (length (lines_of done) + 1) (lines_of (part ++ rest))

-- what was written is the lines of all these turns except for the last one, and a proper prefix of
-- the last one's
abbrev pub IsWrittenInPart : State → Option (List ℕ) → Option (List ℕ) → List Taken → Type 0
IsWrittenInPart w old new turns = (before : List Taken) × (turn : Taken) × (front back : List ℕ)
    × (turns ≡ before ++ turn ∷ []) × (line_sent (state_after w before) turn ≡ front ++ back)
    × (back ≢ []) × Appends old new (output_of w before ++ front)

-- Nothing of an input was read after the line of the last of these turns, or nothing at all if
-- there are no turns. `done` are the lines before that line, `text` begins with that line, and
-- `rest` is what the reader has left.
abbrev pub IsReadTo : State → List ℕ → Option (List ℕ) → List Taken → Type 0
IsReadTo w input left turns = ((turns ≡ []) × (left ≡ Some input))
    ⊎ ((before : List Taken) × (last : Taken) × (turns ≡ before ++ last ∷ [])
    × (done text rest line : List ℕ) × (input ≡ done ++ text) × IsLine text rest line
    × (left ≡ Some rest) × IsUpTo w input before (length (lines_of done) + 1) (lines_of text)
    × AsksFor (length (lines_of done) + 1) (state_after w before).last (state_after w before).events
    (lines_of text) last.turn)

-- The lines of an input have fewer than `most` turns, and these are all of them; or these are
-- `most` turns, and nothing was read after the last one.
abbrev pub IsThrough : State → ℕ → List ℕ → Option (List ℕ) → List Taken → Type 0
IsThrough w most input left turns = ((length turns < most)
    × (script_for w input ≡ record { turns = turns_of turns; bad = None }))
    ⊎ ((length turns ≡ most) × IsReadTo w input left turns)

-- How a replay of at most `most` turns ends, which did these turns. `input` is what the reader had
-- left at first, and `left` what it has left now, if that is known; `old` and `new` are what was
-- written before and after.
--   Ok: all lines were done, or as many turns as allowed, and their lines were written.
--   A bad line: the lines before it were done, and their lines were written.
--   Out of memory at a line: the lines before it were done, and their lines were written. Its event
--   was not done, and its step may run out of memory; or nothing was read at all, and the number is
--   1.
--   `Read`: some lines were done, perhaps none, and their lines were written. At most the bytes of
--   the next one before its line feed were read.
--   `Write`: some lines were done, at least one, and their lines were written, except for a suffix
--   of the last one, of at least one byte.
-- A line that is bad, that runs out of memory or that can't be read comes before `most` turns are
-- done.
abbrev pub Ends : State → ℕ → Option (List ℕ) → Option (List ℕ) → Option (List ℕ)
    → Option (List ℕ) → List Taken → Result ℕ ReplayError → Type 0
Ends w most input left old new turns (Ok n) = (n ≡ length turns) × (n ≤ most)
    × Appends old new (output_of w turns) × IfSome input (λ i. IsThrough w most i left turns)
Ends w most input left old new turns (Err (BadEvent line)) = (length turns < most)
    × Appends old new (output_of w turns)
    × IfSome input (λ i. script_for w i ≡ record { turns = turns_of turns; bad = Some line })
Ends w most input left old new turns (Err (OutOfMemory line)) = Appends old new (output_of w turns)
    × (IsAtStart input left turns line
    ⊎ ((length turns < most) × IfSome input (λ i. IsAtEvent w i turns line)))
Ends w most input left old new turns (Err Read) = (length turns < most)
    × Appends old new (output_of w turns) × IfSome input (λ i. IsBroken w i left turns)
Ends w most input left old new turns (Err Write) = (length turns ≤ most)
    × IsWrittenInPart w old new turns
    × IfSome input (λ i. (line : ℕ) × (lines : List (List ℕ)) × IsUpTo w i turns line lines)

-- A fault of the reader or the writer comes only if that one failed when it was last asked.
abbrev pub HasCause : {A : Type 0} → Bool → Bool → Result A ReplayError → Type 0
HasCause reader writer (Ok a) = Unit {0}
HasCause reader writer (Err (BadEvent line)) = Unit {0}
HasCause reader writer (Err (OutOfMemory line)) = Unit {0}
HasCause reader writer (Err Read) = reader ≡ true
HasCause reader writer (Err Write) = writer ≡ true

-- whether this is a fault of the reader
abbrev pub is_read_fault : {A : Type 0} → Result A ReplayError → Bool
is_read_fault (Ok a) = false
is_read_fault (Err (BadEvent line)) = false
is_read_fault (Err (OutOfMemory line)) = false
is_read_fault (Err Read) = true
is_read_fault (Err Write) = false

-- whether this is a fault of the writer
abbrev pub is_write_fault : {A : Type 0} → Result A ReplayError → Bool
is_write_fault (Ok a) = false
is_write_fault (Err (BadEvent line)) = false
is_write_fault (Err (OutOfMemory line)) = false
is_write_fault (Err Read) = false
is_write_fault (Err Write) = true

-- A reader or a writer that hadn't failed before has failed exactly if the fault is its own.
abbrev pub FailsBy : Bool → Bool → Bool → Type 0
FailsBy fault old new = old ≡ false → new ≡ fault

pub record IsReplayed (w v : State) (most : ℕ) (input left old new : Option (List ℕ))
    (result : Result ℕ ReplayError) : Type 0 where
  pub turns : List Taken
  pub done : HasDone w turns v
  pub ends : Ends w most input left old new turns result

-- A replay of a whole input, whatever it holds. If it succeeds, all lines were done: the turns are
-- those of all the lines, and no line is bad. Otherwise it ends like a replay of at most 2^64 - 1
-- turns, more than any input has.
pub record IsWhollyReplayed (w v : State) (input left old new : Option (List ℕ))
    (result : Result ℕ ReplayError) : Type 0 where
  pub turns : List Taken
  pub done : HasDone w turns v
  pub ends : Ends w (2 ^ 64 - 1) input left old new turns result
  pub whole : IfOk result (λ n. IfSome input
      (λ i. script_for w i ≡ record { turns = turns_of turns; bad = None }))

-- ---- a line of an input

-- what the next line asks for, what is left, and the bytes that the line gives
abbrev pub AsksNext : ℕ → ℕ → ℕ → List ℕ → Option (List ℕ) → List ℕ → Result Asked ReplayError
    → Type 0
AsksNext number last events input left bytes (Ok End) =
    script_from number last events (lines_of input) ≡ all_done
AsksNext number last events input None bytes (Ok Skip) = ⊥
AsksNext number last events input (Some rest) bytes (Ok Skip) = (line : List ℕ)
    × IsLine input rest line × (script_from number last events (lines_of input)
    ≡ script_from (number + 1) last events (lines_of rest))
AsksNext number last events input None bytes (Ok (Do turn)) = ⊥
AsksNext number last events input (Some rest) bytes (Ok (Do turn)) = (line : List ℕ)
    × IsLine input rest line
    × AsksFor number last events (line ∷ lines_of rest) (turn_seen turn bytes)
AsksNext number last events input left bytes (Err (BadEvent line)) = (line ≡ number)
    × (script_from number last events (lines_of input) ≡ bad_at number)
AsksNext number last events input left bytes (Err (OutOfMemory line)) = ⊥
AsksNext number last events input left bytes (Err Read) = IsBegun (Some input) left
AsksNext number last events input left bytes (Err Write) = ⊥

-- what may be done after the moment `last` and `events` events
pub record MayBeDone (last events : ℕ) (t : Turn) : Type 0 where
  pub onward : last ≤ t.now
  pub moment : t.now ≤ greatest
  pub draw : t.draw ≤ 1000
  pub event : IsEvent t.event
  pub few : events < 2 ^ 63

abbrev pub IfDo : (Turn → Type 0) → List ℕ → Result Asked ReplayError → Type 0
IfDo P bytes (Ok End) = Unit {0}
IfDo P bytes (Ok Skip) = Unit {0}
IfDo P bytes (Ok (Do turn)) = P (turn_seen turn bytes)
IfDo P bytes (Err (BadEvent line)) = Unit {0}
IfDo P bytes (Err (OutOfMemory line)) = ⊥
IfDo P bytes (Err Read) = Unit {0}
IfDo P bytes (Err Write) = ⊥

-- what holds if a line was read, so that more may follow
abbrev pub IfMore : Result Asked ReplayError → Type 0 → Type 0
IfMore (Ok End) P = Unit {0}
IfMore (Ok Skip) P = P
IfMore (Ok (Do turn)) P = P
IfMore (Err e) P = Unit {0}

-- a turn, and whether there was memory for one more entry of the store
abbrev pub taken : Turn → Bool → Taken
taken t grown = record { turn = t; grown = grown }

-- A turn was done, and its line was written; or its step, which may allocate, ran out of memory,
-- and nothing was done or written; or the writer failed at its line.
abbrev pub DoesTurn : State → State → Turn → Option (List ℕ) → Option (List ℕ) → ℕ
    → Result (Unit {0}) ReplayError → Type 0
DoesTurn w v t old new number (Ok u) = (grown : Bool)
    × (v ≡ (step_taken w (taken t grown)).state)
    × Appends old new (line_sent w (taken t grown))
DoesTurn w v t old new number (Err (BadEvent line)) = ⊥
DoesTurn w v t old new number (Err (OutOfMemory line)) =
    (line ≡ number) × Appends old new [] × (v ≡ w) × (takes_some w t ≡ true)
DoesTurn w v t old new number (Err Read) = ⊥
DoesTurn w v t old new number (Err Write) = (grown : Bool)
    × (v ≡ (step_taken w (taken t grown)).state)
    × ((front back : List ℕ) × (line_sent w (taken t grown) ≡ front ++ back) × (back ≢ [])
    × Appends old new front)
