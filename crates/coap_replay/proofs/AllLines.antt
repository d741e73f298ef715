-- A replay of a whole input: no input has as many turns as a replay may do.
use Rattle.std.proofs.Common.{◌≡◌, inl, inr, ℕ, ◌+◌, ◌-◌, ◌^◌, ◌≤◌, ◌||◌, Bool, true, false, cond, ltb, List, [], ◌∷◌, length, Option, Some, None, Result, Ok, Err, refl, ap, arith}
use Rattle.std.specs.Prelude.{IfSome}
use Rattle.std.proofs.lemmas.Bool.{ltb-true}
use Rattle.std.proofs.lemmas.List.{length-append}
use Rattle.coap_model.specs.State.{State}
use Rattle.coap_model.specs.Runs.{Turn, Taken, turns_of}
use Rattle.coap_lines.specs.Lines.{is_skipped, is_too_long, lines_of}
use Rattle.coap_lines.specs.Scripts.{Script, bad_at, script_from, with_event, with_turn}
use Rattle.coap_lines.specs.Turns.{greatest, turn_of}
use Rattle.coap_replay.specs.declared.error.ReplayError.{ReplayError}
use Rattle.coap_replay.specs.Replays.{IsReplayed, IsThrough, IsUpTo, IsWhollyReplayed, script_for, script_after}

-- lines have no more turns than a core handles events
few-turns : (number last events : ℕ) (lines : List (List ℕ)) → length (script_from number last events lines).turns ≤ 9223372036854775808 - events
unfolding script_from
few-turns number last events [] = omega arith
few-turns number last events (line ∷ lines) =
    go (is_too_long line || ltb greatest number) (is_skipped line) (turn_of last line) (few-turns (number + 1) last events lines) (λ now. few-turns (number + 1) now (events + 1) lines)
  where
    Few : Script → Type 0
    Few s = length s.turns ≤ 9223372036854775808 - events

    after : ℕ → Script
    after now = script_from (number + 1) now (events + 1) lines

    said-turn : (turn : Turn) (few : Bool) → ltb events (2 ^ 63) ≡ few → length (after turn.now).turns ≤ 9223372036854775808 - (events + 1) → Few (cond few (with_turn turn (after turn.now)) (bad_at number))
    said-turn turn false is further = omega arith
    said-turn turn true is further = let less = ltb-true events (2 ^ 63) is in omega (arith, less, further)

    go : (long skipped : Bool) (turn : Option Turn) → Few (script_from (number + 1) last events lines) → ((now : ℕ) → length (after now).turns ≤ 9223372036854775808 - (events + 1)) → Few (cond long (bad_at number) (cond skipped (script_from (number + 1) last events lines) (with_event number events turn after)))
    go true skipped turn skips further = omega arith
    go false true turn skips further = skips
    go false false None skips further = omega arith
    go false false (Some turn) skips further = said-turn turn (ltb events (2 ^ 63)) refl (further turn.now)

-- turning taken turns into turns keeps their number
pub length-turns : (ts : List Taken) → length (turns_of ts) ≡ length ts
length-turns [] = refl
length-turns (t ∷ ts) = omega (arith, length-turns ts)

-- fewer than 2^64 - 1 turns were done before a line
few-before : (w : State) (input : List ℕ) (before : List Taken) (line : ℕ) (left : List (List ℕ)) → IsUpTo w input before line left → length before ≤ 9223372036854775808
few-before w input before line left up =
    let script = ap (λ (s : Script). length s.turns) up.asked in
    let all = few-turns 1 w.last w.events (lines_of input) in
    omega (arith, script, all, length-append (turns_of before) (script_after w before line left).turns, length-turns before)

-- so all lines were done
all-done : (w : State) (i : List ℕ) (left : Option (List ℕ)) (turns : List Taken) → IsThrough w 18446744073709551615 i left turns → script_for w i ≡ record { turns = turns_of turns; bad = None }
all-done w i left turns (inl (few, all)) = all
all-done w i left turns (inr (many, inl (none, unread))) = absurd (omega (arith, many, ap length none))
all-done w i left turns (inr (many, inr (before, last, are, done, text, rest, line, split, is, after, up, asks))) =
    absurd (omega (arith, many, ap length are, length-append before (last ∷ []), few-before w i before _ _ up))

-- the same for an input that may not be known
of-known : (w : State) (input left : Option (List ℕ)) (turns : List Taken) → IfSome input (λ i. IsThrough w 18446744073709551615 i left turns) → IfSome input (λ i. script_for w i ≡ record { turns = turns_of turns; bad = None })
of-known w None left turns through = tt
of-known w (Some i) left turns through = all-done w i left turns through

-- a replay of at most 2^64 - 1 turns is a replay of the whole input
pub wholly : (w v : State) (input left old new : Option (List ℕ)) (result : Result ℕ ReplayError) → IsReplayed w v 18446744073709551615 input left old new result → IsWhollyReplayed w v input left old new result
wholly w v input left old new (Ok n) is =
    record { turns = is.turns; done = is.done; ends = is.ends; whole = of-known w input left is.turns is.ends.3 }
wholly w v input left old new (Err e) is = record { turns = is.turns; done = is.done; ends = is.ends; whole = tt }
