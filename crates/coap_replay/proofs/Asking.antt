-- What the next line of an input asks for, whether or not the input is known.
use Rattle.std.proofs.Common.{◌≡◌, ℕ, ◌^◌, ◌<◌, ◌≤◌, true, false, List, ◌∷◌, Option, Some, None, Ok, Err, refl, sym, ap, ◌∙◌}
use Rattle.std.specs.Prelude.{IfSome}
use Rattle.coap_model.specs.Runs.{Turn}
use Rattle.coap_replay.specs.declared.error.ReplayError.TheVariants.{BadEvent, Read}
use Rattle.coap_lines.specs.declared.reading.input.Next.{Next}
use Rattle.coap_lines.specs.declared.reading.input.Next.TheVariants as next
use Rattle.coap_replay.specs.declared.replays.Asked.TheVariants.{End, Skip, Do}
use Rattle.coap_lines.specs.declared.reading.turn.Turn.{Turn as TurnRead}
use Rattle.coap_lines.specs.Lines.{IsBegun, IsNext, is_skipped, lines_of}
use Rattle.coap_lines.specs.Scripts.{AsksFor, bad_at, script_from}
use Rattle.coap_replay.specs.Replays.{AsksNext, MayBeDone}
use Rattle.coap_lines.specs.Turns.{greatest, turn_of, turn_seen}
use Rattle.coap_lines.proofs.ScriptTurns.{IsEvent-said}
use Rattle.coap_lines.proofs.LineByLine.{step-bad, step-end, step-full, step-long, step-many, step-skip, step-turn}
use Rattle.coap_lines.proofs.TurnTexts.{turn_of-is}

module _ (number last events : ℕ) (old left : Option (List ℕ)) (line held : List ℕ) where
  -- what comes next in an input that is known
  abbrev Comes : Next → Type 0
  Comes n = IfSome old (λ input. IsNext input left line n)

  -- what holds for each input and what is left of it
  known : (n : Next) (P : List ℕ → Option (List ℕ) → Type 0) → Comes n → ((input rest : List ℕ) → IsNext input (Some rest) line n → P input (Some rest)) → IfSome old (λ input. P input left)
  known n P comes each = go old left comes
    where
      go : (o l : Option (List ℕ)) → IfSome o (λ input. IsNext input l line n) → IfSome o (λ input. P input l)
      go None l c = tt
      go (Some input) None c = absurd c
      go (Some input) (Some rest) c = each input rest c

  -- no line is left
  pub asks-end : Comes next.End → IfSome old (λ input. AsksNext number last events input left held (Ok End))
  asks-end comes = known next.End (λ input l. AsksNext number last events input l held (Ok End)) comes (λ input rest n. step-end number last events input rest line n)

  -- a line that is too long
  pub asks-long : Comes next.TooLong → IfSome old (λ input. AsksNext number last events input left held (Err (BadEvent number)))
  asks-long comes = known next.TooLong (λ input l. AsksNext number last events input l held (Err (BadEvent number))) comes (λ input rest n. (refl, step-long number last events input rest line n))

  -- a line whose number is too great
  pub asks-many : Comes next.Line → greatest < number → IfSome old (λ input. AsksNext number last events input left held (Err (BadEvent number)))
  asks-many comes above = known next.Line (λ input l. AsksNext number last events input l held (Err (BadEvent number))) comes (λ input rest n. (refl, step-many number last events input rest line n above))

  -- a line that is skipped
  pub asks-skip : Comes next.Line → number ≤ greatest → is_skipped line ≡ true → IfSome old (λ input. AsksNext number last events input left held (Ok Skip))
  asks-skip comes within skipped = known next.Line (λ input l. AsksNext number last events input l held (Ok Skip)) comes (λ input rest n. (line, n, step-skip number last events input rest line n within skipped))

  -- a line without a turn
  pub asks-bad : Comes next.Line → number ≤ greatest → is_skipped line ≡ false → turn_of last line ≡ None → IfSome old (λ input. AsksNext number last events input left held (Err (BadEvent number)))
  asks-bad comes within other none = known next.Line (λ input l. AsksNext number last events input l held (Err (BadEvent number))) comes (λ input rest n. (refl, step-bad number last events input rest line n within other none))

  -- a line after as many events as a core handles
  pub asks-full : Comes next.Line → number ≤ greatest → is_skipped line ≡ false → 2 ^ 63 ≤ events → IfSome old (λ input. AsksNext number last events input left held (Err (BadEvent number)))
  asks-full comes within other many = known next.Line (λ input l. AsksNext number last events input l held (Err (BadEvent number))) comes (λ input rest n. (refl, by (turn_of last line) refl input rest n))
    where
      by : (turn : Option Turn) → turn_of last line ≡ turn → (input rest : List ℕ) → IsNext input (Some rest) line next.Line → script_from number last events (lines_of input) ≡ bad_at number
      by None is input rest n = step-bad number last events input rest line n within other is
      by (Some turn) is input rest n = step-full number last events input rest line turn n within other is many

  -- what the first line asks for, if it has a turn
  asks-for : (turn : Turn) (input rest : List ℕ) → IsNext input (Some rest) line next.Line → number ≤ greatest → is_skipped line ≡ false → turn_of last line ≡ Some turn → events < 2 ^ 63 → AsksFor number last events (line ∷ lines_of rest) turn
  asks-for turn input rest n within other is few = (other, sym (ap (script_from number last events) n.0) ∙ step-turn number last events input rest line turn n within other is few)

  -- a line with a turn
  pub asks-turn : (turn : TurnRead) → Comes next.Line → number ≤ greatest → is_skipped line ≡ false → turn_of last line ≡ Some (turn_seen turn held) → events < 2 ^ 63 → IfSome old (λ input. AsksNext number last events input left held (Ok (Do turn)))
  asks-turn turn comes within other is few = known next.Line (λ input l. AsksNext number last events input l held (Ok (Do turn))) comes (λ input rest n. (line, n, asks-for (turn_seen turn held) input rest n within other is few))

  -- a line that wasn't read
  pub asks-unread : IsBegun old left → IfSome old (λ input. AsksNext number last events input left held (Err Read))
  asks-unread begun = go old begun
    where
      go : (o : Option (List ℕ)) → IsBegun o left → IfSome o (λ input. AsksNext number last events input left held (Err Read))
      go None b = tt
      go (Some input) b = b

-- the turn of a line may be done
pub may-be-done : (last events : ℕ) (line : List ℕ) (turn : Turn) → turn_of last line ≡ Some turn → events < 2 ^ 63 → MayBeDone last events turn
may-be-done last events line turn is few =
    let (moment, draw, what, split, now, onward, number, said) = turn_of-is last line turn is in
    record { onward = onward; moment = now.1; draw = number.1; event = IsEvent-said what turn.event said; few = few }
