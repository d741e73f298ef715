-- Turns of a script: they follow each other, within the ranges that lines have.
use Rattle.std.proofs.Common.{◌≡◌, ℕ, ◌+◌, ◌^◌, ◌≤◌, Bool, true, false, ◌||◌, List, [], ◌∷◌, Option, Some, None, refl, cond, inl, inr, ltb, arith}
use Rattle.std.specs.List.{AllByRecursion}
use Rattle.hex.proofs.HexLemmas.{decode_of-ok}
use Rattle.coap_message.specs.Uint.{IsBytes}
use Rattle.coap_model.specs.Events.{Event, IsEvent}
use Rattle.coap_model.specs.Events.Event.{arrival, tick}
use Rattle.coap_model.specs.Runs.{AreTurns, Turn}
use Rattle.coap_lines.specs.Datagrams.{IsHex}
use Rattle.coap_lines.specs.Lines.{is_skipped, is_too_long}
use Rattle.coap_lines.specs.Scripts.{Script, bad_at, script_from, with_event, with_turn}
use Rattle.coap_lines.specs.Turns.{IsEventText, greatest, turn_of}
use Rattle.coap_lines.proofs.TurnTexts.{turn_of-is}

-- hexadecimal digits encode bytes
IsBytes-hex : (text bytes : List ℕ) → IsHex text bytes → IsBytes bytes
IsBytes-hex text bytes (inl none) = rw (none.1) (λ i. omega arith)
IsBytes-hex text bytes (inr some) = (decode_of-ok text bytes some.1).3

-- so a datagram that a text encodes has bytes
pub IsEvent-said : (text : List ℕ) (event : Event) → IsEventText text event → IsEvent event
IsEvent-said text tick is = tt
IsEvent-said text (arrival from bytes) (source, hex, split, endpoint, digits) = IsBytes-hex hex bytes digits

-- a turn's moment is at most the greatest, and its draw at most 1,000
abbrev pub IsWithin : Turn → Type 0
IsWithin turn = (turn.now ≤ greatest) × (turn.draw ≤ 1000)

-- the turns of lines
pub script_from-turns : (number last events : ℕ) (lines : List (List ℕ)) → AreTurns last (script_from number last events lines).turns × AllByRecursion IsWithin (script_from number last events lines).turns
unfolding script_from
script_from-turns number last events [] = (tt, tt)
script_from-turns number last events (line ∷ lines) =
    go (is_too_long line || ltb greatest number) (is_skipped line) (turn_of last line) refl (script_from-turns (number + 1) last events lines) (λ now. script_from-turns (number + 1) now (events + 1) lines)
  where
    Are : Script → Type 0
    Are s = AreTurns last s.turns × AllByRecursion IsWithin s.turns

    Follow : ℕ → Type 0
    Follow now = AreTurns now (script_from (number + 1) now (events + 1) lines).turns × AllByRecursion IsWithin (script_from (number + 1) now (events + 1) lines).turns

    after : ℕ → Script
    after now = script_from (number + 1) now (events + 1) lines

    said-turn : (turn : Turn) → turn_of last line ≡ Some turn → (few : Bool) → ((now : ℕ) → Follow now) → Are (cond few (with_turn turn (after turn.now)) (bad_at number))
    said-turn turn is false further = (tt, tt)
    said-turn turn is true further =
        let (moment, draw, what, split, now, onward, number, said) = turn_of-is last line turn is in
        let rest = further turn.now in
        ((onward, IsEvent-said what turn.event said, rest.0), ((now.1, number.1), rest.1))

    go : (long skipped : Bool) (turn : Option Turn) → turn_of last line ≡ turn → Are (script_from (number + 1) last events lines) → ((now : ℕ) → Follow now) → Are (cond long (bad_at number) (cond skipped (script_from (number + 1) last events lines) (with_event number events turn after)))
    go true skipped turn is skips further = (tt, tt)
    go false true turn is skips further = skips
    go false false None is skips further = (tt, tt)
    go false false (Some turn) is skips further = said-turn turn is (ltb events (2 ^ 63)) further
