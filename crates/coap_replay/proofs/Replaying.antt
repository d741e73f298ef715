-- A replay turn by turn: what was done and written so far, and what is still asked for.
use Rattle.std.proofs.Common.{◌≡◌, inl, inr, ℕ, Bool, true, ◌+◌, ◌≤◌, ◌<◌, List, [], ◌∷◌, ◌++◌, length, Option, Some, None, Result, Ok, Err, refl, sym, ap, ◌∙◌, subst, append_assoc, arith}
use Rattle.std.specs.Prelude.{IfSome}
use Rattle.std.specs.Io.KnownBytes.{Appends}
use Rattle.std.proofs.KnownBytes.{Appends-trans}
use Rattle.std.proofs.lemmas.List.{append-nil, length-append}
use Rattle.coap_model.specs.History.{Observation}
use Rattle.coap_model.specs.State.{State}
use Rattle.coap_model.specs.Events.{IsEvent}
use Rattle.coap_model.specs.Carries.{Carries}
use Rattle.coap_model.specs.Runs.{Turn, Taken, turns_of, AreTurns, Run, one_turn, run_of, step_taken}
use Rattle.coap_model.proofs.Runs.{clock_after, runs_carry}
use Rattle.coap_model.proofs.Word.{keeps-word}
use Rattle.coap_lines.specs.declared.reading.turn.Turn.{Turn as TurnRead}
use Rattle.coap_lines.specs.Turns.{turn_seen}
use Rattle.coap_lines.specs.Lines.{IsBegun, IsLine, lines_of}
use Rattle.coap_lines.specs.Scripts.{AsksFor, script_from, with_turn}
use Rattle.coap_lines.proofs.CutInputs.{IsCutBetween, further, lines_of-cut}
use Rattle.coap_replay.specs.declared.error.ReplayError.{ReplayError}
use Rattle.coap_replay.specs.declared.error.ReplayError.TheVariants.{BadEvent, OutOfMemory, Read, Write}
use Rattle.coap_replay.specs.declared.replays.Asked.{Asked}
use Rattle.coap_replay.specs.declared.replays.Asked.TheVariants.{End, Skip, Do}
use Rattle.coap_replay.specs.Replays.{AsksNext, DoesTurn, HasDone, IfDo, IsAtEvent, IsBroken, IsReadTo, IsReplayed, IsThrough, IsUpTo, MayBeDone, line_sent, output_of, run_at, script_for, taken, takes_some, with_turns, state_after}

-- ---- one more turn

-- a run with one more turn
pub run-more : (r : Run) (ts : List Taken) (t : Taken) → run_of r (ts ++ t ∷ []) ≡ one_turn (run_of r ts) t
run-more r [] t = refl
run-more r (u ∷ ts) t = run-more (one_turn r u) ts t

-- the tables after a run don't depend on the history before it
pub run-apart : (r q : Run) (ts : List Taken) → r.state ≡ q.state → (run_of r ts).state ≡ (run_of q ts).state
run-apart r q [] e = e
run-apart r q (t ∷ ts) e = run-apart (one_turn r t) (one_turn q t) ts (ap (λ (w : State). (step_taken w t).state) e)

-- what is written with one more turn
pub output-more : (r : Run) (ts : List Taken) (t : Taken) → output_of r.state (ts ++ t ∷ []) ≡ output_of r.state ts ++ line_sent (run_of r ts).state t
output-more r [] t = append-nil (line_sent r.state t)
output-more r (u ∷ ts) t =
    ap (λ (l : List ℕ). line_sent r.state u ++ l) (output-more (one_turn r u) ts t) ∙ sym (append_assoc (line_sent r.state u) (output_of (step_taken r.state u).state ts) (line_sent (run_of (one_turn r u) ts).state t))

-- one more turn whose moment doesn't go back
are-more : (r : Run) (ts : List Taken) (t : Taken) → AreTurns r.state.last (turns_of ts) → (run_of r ts).state.last ≤ t.turn.now → IsEvent t.turn.event → AreTurns r.state.last (turns_of (ts ++ t ∷ []))
are-more r [] t are onward event = (onward, event, tt)
are-more r (u ∷ ts) t are onward event =
    let last = (clock_after r.state u.turn.now u.turn.draw u.grown u.turn.event are.1).0 in
    let rest = are-more (one_turn r u) ts t (subst (λ (n : ℕ). AreTurns n (turns_of ts)) (sym last) are.2) onward event in
    (are.0, are.1, subst (λ (n : ℕ). AreTurns n (turns_of (ts ++ t ∷ []))) last rest)

-- the turns as they were requested, with one more
pub turns_of-more : (ts : List Taken) (t : Taken) → turns_of (ts ++ t ∷ []) ≡ turns_of ts ++ t.turn ∷ []
turns_of-more [] t = refl
turns_of-more (u ∷ ts) t = ap (λ (l : List Turn). u.turn ∷ l) (turns_of-more ts t)

-- nothing was done
done-nothing : (w : State) → HasDone w [] w
done-nothing w = record { are = tt; state = refl; carries = λ history c. c; word = λ history c. keeps-word history w c }

-- one more turn was done
done-more : (w v : State) (ts : List Taken) (t : Taken) → HasDone w ts v → MayBeDone v.last v.events t.turn → HasDone w (ts ++ t ∷ []) (step_taken v t).state
done-more w v ts t d may =
    let onward : (state_after w ts).last ≤ t.turn.now = subst (λ (u : State). u.last ≤ t.turn.now) d.state may.onward in
    let are = are-more (run_at w []) ts t d.are onward may.event in
    let state : (step_taken v t).state ≡ state_after w (ts ++ t ∷ []) = ap (λ (u : State). (step_taken u t).state) d.state ∙ sym (ap (λ (r : Run). r.state) (run-more (run_at w []) ts t)) in
    record {
      are = are;
      state = state;
      carries = carries are state;
      word = λ history c. keeps-word (run_of (run_at w history) (ts ++ t ∷ [])).history (step_taken v t).state (carries are state history c);
    }
  where
    carries : AreTurns w.last (turns_of (ts ++ t ∷ [])) → (step_taken v t).state ≡ state_after w (ts ++ t ∷ []) → (history : List Observation) → Carries history w → Carries (run_of (run_at w history) (ts ++ t ∷ [])).history (step_taken v t).state
    carries are state history c = subst (λ (u : State). Carries (run_of (run_at w history) (ts ++ t ∷ [])).history u) (run-apart (run_at w history) (run_at w []) (ts ++ t ∷ []) refl ∙ sym state) (runs_carry (run_at w history) (ts ++ t ∷ []) c are)

-- ---- the state of a replay

-- the rest of an input follows the lines that were read, and asks for what is still to be done
abbrev pub StillAsks : State → List ℕ → Option (List ℕ) → List Taken → ℕ → State → Type 0
StillAsks w input None turns lines v = ⊥
StillAsks w input (Some rest) turns lines v = (done : List ℕ) × (input ≡ done ++ rest) × IsCutBetween done rest
    × (length (lines_of done) ≡ lines) × (script_for w input ≡ with_turns turns (script_from (lines + 1) v.last v.events (lines_of rest)))

-- the state after this many lines were read and this many turns done, with their lines written
pub record IsAt (w v : State) (input left old new : Option (List ℕ)) (lines count : ℕ) : Type 0 where
  pub turns : List Taken
  pub done : HasDone w turns v
  pub written : Appends old new (output_of w turns)
  pub counted : count ≡ length turns
  pub asked : IfSome input (λ i. StillAsks w i left turns lines v)

-- at first nothing was written
nothing-written : (a : Option (List ℕ)) → Appends a a []
nothing-written None = tt
nothing-written (Some xs) = sym (append-nil xs)

-- at first everything in an input is still to be done
at-first : (w : State) (input : Option (List ℕ)) → IfSome input (λ i. StillAsks w i input [] 0 w)
at-first w None = tt
at-first w (Some i) = ([], refl, inl (λ more. refl), refl, refl)

-- the state of a replay at first
pub at-start : (w : State) (input old : Option (List ℕ)) → IsAt w w input input old old 0 0
at-start w input old = record { turns = []; done = done-nothing w; written = nothing-written old; counted = refl; asked = at-first w input }

-- memory runs out before the first line
pub ends-at-start : (w : State) (most : ℕ) (input old : Option (List ℕ)) → IsReplayed w w most input input old old (Err (OutOfMemory 1))
ends-at-start w most input old = record { turns = []; done = done-nothing w; ends = (nothing-written old, inl (refl, refl, refl)) }

-- no turn is to be done
pub ends-none : (w : State) (input old : Option (List ℕ)) → IsReplayed w w 0 input input old old (Ok 0)
ends-none w input old = record { turns = []; done = done-nothing w; ends = (refl, omega arith, nothing-written old, of-any input) }
  where
    of-any : (o : Option (List ℕ)) → IfSome o (λ i. IsThrough w 0 i o [])
    of-any None = tt
    of-any (Some i) = inr (refl, inl (refl, refl))

-- the lines that were read are those before the next one
up-to-next : (w v : State) (i rest : List ℕ) (turns : List Taken) (lines : ℕ) → v ≡ state_after w turns → StillAsks w i (Some rest) turns lines v → IsUpTo w i turns (lines + 1) (lines_of rest)
up-to-next w v i rest turns lines state (done, split, cut, len, script) = record {
  front = lines_of done;
  split = ap lines_of split ∙ lines_of-cut done rest cut;
  number = omega (arith, len);
  asked = subst (λ (u : State). script_for w i ≡ with_turns turns (script_from (lines + 1) u.last u.events (lines_of rest))) state script;
}

-- a line that was read in part is the next one
broken : (w v : State) (i rest : List ℕ) (left' : Option (List ℕ)) (turns : List Taken) (lines : ℕ) → v ≡ state_after w turns → StillAsks w i (Some rest) turns lines v → IsBegun (Some rest) left' → IsBroken w i left' turns
broken w v i rest None turns lines state s (part, clear, taken) = absurd taken
broken w v i rest (Some rest') turns lines state (done, split, cut, len, script) (part, clear, taken) =
    let up : IsUpTo w i turns (lines + 1) (lines_of rest) = up-to-next w v i rest turns lines state (done, split, cut, len, script) in
    let same : IsUpTo w i turns (length (lines_of done) + 1) (lines_of (part ++ rest')) = rw len (subst (λ (r : List ℕ). IsUpTo w i turns (lines + 1) (lines_of r)) taken up) in
    (done, part, split ∙ ap (λ (r : List ℕ). done ++ r) taken ∙ sym (append_assoc done part rest'), clear, same)

-- what is still to be done after one more line, by the script after it
line-more : (w v v' : State) (i rest rest' line : List ℕ) (turns turns' : List Taken) (lines : ℕ) → StillAsks w i (Some rest) turns lines v → IsLine rest rest' line
    → (script_for w i ≡ with_turns turns (script_from (lines + 1) v.last v.events (lines_of rest)) → script_for w i ≡ with_turns turns' (script_from (lines + 1 + 1) v'.last v'.events (lines_of rest')))
    → StillAsks w i (Some rest') turns' (lines + 1) v'
line-more w v v' i rest rest' line turns turns' lines (done, split, cut, len, script) is goes =
    let (taken, parts, whole, apart) = further done rest rest' line cut is in (
      done ++ taken,
      split ∙ ap (λ (r : List ℕ). done ++ r) parts ∙ sym (append_assoc done taken rest'),
      apart,
      omega (arith, len, ap length whole, length-append (lines_of done) (line ∷ [])),
      goes script,
    )

module _ (w v : State) (input left left' old new : Option (List ℕ)) (held : List ℕ) (lines count most : ℕ) (at : IsAt w v input left old new lines count) (more : count < most) where
  -- fewer turns were done than allowed
  fewer : length at.turns < most
  fewer = omega (arith, at.counted, more)

  -- what holds for an input that is known
  of-known : (P : List ℕ → Type 0) (Q : List ℕ → Type 0) → IfSome left Q → ((i rest : List ℕ) → StillAsks w i (Some rest) at.turns lines v → Q rest → P i) → IfSome input P
  of-known P Q q each = go input left at.asked q
    where
      go : (o l : Option (List ℕ)) → IfSome o (λ i. StillAsks w i l at.turns lines v) → IfSome l Q → IfSome o P
      go None l s q = tt
      go (Some i) None s q = absurd s
      go (Some i) (Some rest) s q = each i rest s q

  -- the lines that were read
  up-to : (i rest : List ℕ) → StillAsks w i (Some rest) at.turns lines v → IsUpTo w i at.turns (lines + 1) (lines_of rest)
  up-to i rest s = up-to-next w v i rest at.turns lines at.done.state s

  -- a line asks for a turn, and its number is the next one
  at-event : (i rest : List ℕ) (line : ℕ) (turn : Turn) → StillAsks w i (Some rest) at.turns lines v → line ≡ lines + 1 → AsksFor (lines + 1) v.last v.events (lines_of rest) turn → takes_some v turn ≡ true → IsAtEvent w i at.turns line
  at-event i rest line turn s is asks lacks =
      rw is (lines_of rest, turn, up-to i rest s, subst (λ (u : State). AsksFor (lines + 1) u.last u.events (lines_of rest) turn) at.done.state asks, subst (λ (u : State). takes_some u turn ≡ true) at.done.state lacks)

  -- no line is left
  ends-done : IfSome left (λ rest. AsksNext (lines + 1) v.last v.events rest left' held (Ok End)) → IsReplayed w v most input left' old new (Ok count)
  ends-done asks =
      record {
        turns = at.turns;
        done = at.done;
        ends = (at.counted, omega (arith, more), at.written, of-known (λ i. IsThrough w most i left' at.turns) (λ rest. AsksNext (lines + 1) v.last v.events rest left' held (Ok End)) asks (λ i rest s a. inl (fewer, s.4 ∙ rw (a, append-nil (turns_of at.turns)) refl)));
      }

  -- a line can't be done, or can't be read
  pub ends-refused : (e : ReplayError) → IfSome left (λ rest. AsksNext (lines + 1) v.last v.events rest left' held (Err e)) → IfDo (MayBeDone v.last v.events) held (Err e) → IsReplayed w v most input left' old new (Err e)
  ends-refused (BadEvent line) asks may =
      record {
        turns = at.turns;
        done = at.done;
        ends = (fewer, at.written, of-known (λ i. script_for w i ≡ record { turns = turns_of at.turns; bad = Some line }) (λ rest. AsksNext (lines + 1) v.last v.events rest left' held (Err (BadEvent line))) asks (λ i rest s a. s.4 ∙ rw (a.1, a.0, append-nil (turns_of at.turns)) refl));
      }
  ends-refused (OutOfMemory line) asks may = absurd may
  ends-refused Read asks may =
      record {
        turns = at.turns;
        done = at.done;
        ends = (fewer, at.written, of-known (λ i. IsBroken w i left' at.turns) (λ rest. IsBegun (Some rest) left') asks (λ i rest s a. broken w v i rest left' at.turns lines at.done.state s a));
      }
  ends-refused Write asks may = absurd may

  -- a line is skipped
  pub goes-on : IfSome left (λ rest. AsksNext (lines + 1) v.last v.events rest left' held (Ok Skip)) → IsAt w v input left' old new (lines + 1) count
  goes-on asks = record { turns = at.turns; done = at.done; written = at.written; counted = at.counted; asked = go input left at.asked left' asks }
    where
      go : (o l : Option (List ℕ)) → IfSome o (λ i. StillAsks w i l at.turns lines v) → (l' : Option (List ℕ)) → IfSome l (λ rest. AsksNext (lines + 1) v.last v.events rest l' held (Ok Skip)) → IfSome o (λ i. StillAsks w i l' at.turns (lines + 1) v)
      go None l s l' a = tt
      go (Some i) None s l' a = absurd s
      go (Some i) (Some rest) s None a = absurd a
      go (Some i) (Some rest) s (Some more) (line, is, next) =
          line-more w v v i rest more line at.turns at.turns lines s is (λ script. script ∙ ap (with_turns at.turns) next)

  module _ (turn : TurnRead) (asks : IfSome left (λ rest. AsksNext (lines + 1) v.last v.events rest left' held (Ok (Do turn)))) (may : MayBeDone v.last v.events (turn_seen turn held)) where
    module _ (grown : Bool) where
      abbrev t : Taken
      t = taken (turn_seen turn held) grown

      abbrev turns : List Taken
      turns = at.turns ++ t ∷ []

      -- one more turn is done
      done : HasDone w turns (step_taken v t).state
      done = done-more w v at.turns t at.done may

      -- the number of turns done then, which is at most the number allowed
      count-then : count + 1 ≡ length turns
      count-then = omega (arith, at.counted, length-append at.turns (t ∷ []))

      no-more : length turns ≤ most
      no-more = omega (arith, count-then, more)

      -- its line is the one for the tables before it
      line : line_sent (state_after w at.turns) t ≡ line_sent v t
      line = rw (← at.done.state) refl

      -- what is written then
      output : output_of w turns ≡ output_of w at.turns ++ line_sent v t
      output = output-more (run_at w []) at.turns t ∙ rw (← at.done.state) refl

      -- what is still to be done then
      asked : IfSome input (λ i. StillAsks w i left' turns (lines + 1) (step_taken v t).state)
      asked = go input left at.asked left' asks
        where
          one-more : (ls : List (List ℕ)) (l e : ℕ) → l ≡ t.turn.now → e ≡ v.events + 1 → with_turns at.turns (with_turn t.turn (script_from (lines + 1 + 1) t.turn.now (v.events + 1) ls)) ≡ with_turns turns (script_from (lines + 1 + 1) l e ls)
          one-more ls l e p q = rw (p, q, turns_of-more at.turns t, append_assoc (turns_of at.turns) (t.turn ∷ []) (script_from (lines + 1 + 1) t.turn.now (v.events + 1) ls).turns) refl

          clock : ((step_taken v t).state.last ≡ t.turn.now) × ((step_taken v t).state.events ≡ v.events + 1)
          clock = clock_after v t.turn.now t.turn.draw t.grown t.turn.event may.event

          go : (o l : Option (List ℕ)) → IfSome o (λ i. StillAsks w i l at.turns lines v) → (l' : Option (List ℕ)) → IfSome l (λ rest. AsksNext (lines + 1) v.last v.events rest l' held (Ok (Do turn))) → IfSome o (λ i. StillAsks w i l' turns (lines + 1) (step_taken v t).state)
          go None l s l' a = tt
          go (Some i) None s l' a = absurd s
          go (Some i) (Some rest) s None a = absurd a
          go (Some i) (Some rest) s (Some more) (text, is, (other, next)) =
              line-more w v (step_taken v t).state i rest more text at.turns turns lines s is
              (λ script. script ∙ ap (λ (ls : List (List ℕ)). with_turns at.turns (script_from (lines + 1) v.last v.events ls)) is.0 ∙ ap (with_turns at.turns) next ∙ one-more (lines_of more) (step_taken v t).state.last (step_taken v t).state.events clock.0 clock.1)

      -- the event was done, and its line written
      pub goes-further : (v' : State) (new' : Option (List ℕ)) → v' ≡ (step_taken v t).state → Appends new new' (line_sent v t) → IsAt w v' input left' old new' (lines + 1) (count + 1)
      goes-further v' new' is wrote =
          rw is (record {
            turns = turns;
            done = done;
            written = rw output (Appends-trans old new new' (output_of w at.turns) (line_sent v t) at.written wrote);
            counted = count-then;
            asked = asked;
          })

      -- nothing was read after its line
      read-to : IfSome input (λ i. IsReadTo w i left' turns)
      read-to = go input left at.asked left' asks
        where
          go : (o l : Option (List ℕ)) → IfSome o (λ i. StillAsks w i l at.turns lines v) → (l' : Option (List ℕ)) → IfSome l (λ rest. AsksNext (lines + 1) v.last v.events rest l' held (Ok (Do turn))) → IfSome o (λ i. IsReadTo w i l' turns)
          go None l s l' a = tt
          go (Some i) None s l' a = absurd s
          go (Some i) (Some rest) s None a = absurd a
          go (Some i) (Some rest) s (Some after) (text, is, asked) =
              let (before, split, cut, len, script) = s in
              let here : length (lines_of before) + 1 ≡ lines + 1 = omega (arith, len) in
              let for : AsksFor (lines + 1) v.last v.events (lines_of rest) (turn_seen turn held) = subst (λ (ls : List (List ℕ)). AsksFor (lines + 1) v.last v.events ls (turn_seen turn held)) (sym is.0) asked in
              inr (
                at.turns,
                t,
                refl,
                before,
                rest,
                after,
                text,
                split,
                is,
                refl,
                subst (λ (n : ℕ). IsUpTo w i at.turns n (lines_of rest)) (sym here) (up-to i rest s),
                subst (λ (n : ℕ). AsksFor n (state_after w at.turns).last (state_after w at.turns).events (lines_of rest) (turn_seen turn held)) (sym here)
                    (subst (λ (u : State). AsksFor (lines + 1) u.last u.events (lines_of rest) (turn_seen turn held)) at.done.state for),
              )

      -- the event was done and its line written, and no further turn is allowed
      pub ends-enough : (v' : State) (new' : Option (List ℕ)) → v' ≡ (step_taken v t).state → Appends new new' (line_sent v t) → count + 1 ≡ most → IsReplayed w v' most input left' old new' (Ok (count + 1))
      ends-enough v' new' is wrote enough =
          rw is (record {
            turns = turns;
            done = done;
            ends = (
              count-then,
              omega (arith, enough),
              rw output (Appends-trans old new new' (output_of w at.turns) (line_sent v t) at.written wrote),
              through input read-to,
            );
          })
        where
          through : (o : Option (List ℕ)) → IfSome o (λ i. IsReadTo w i left' turns) → IfSome o (λ i. IsThrough w most i left' turns)
          through None r = tt
          through (Some i) r = inr (sym count-then ∙ enough, r)

    -- the turn failed
    pub ends-turn : (v' : State) (new' : Option (List ℕ)) (e : ReplayError) → DoesTurn v v' (turn_seen turn held) new new' (lines + 1) (Err e) → IsReplayed w v' most input left' old new' (Err e)
    ends-turn v' new' (BadEvent line) does = absurd does
    ends-turn v' new' Read does = absurd does
    ends-turn v' new' (OutOfMemory line) (is, nothing, same, lacks) = rw same (record { turns = at.turns; done = at.done; ends = (wrote, inr (fewer, go input left at.asked left' asks)) })
      where
        wrote : Appends old new' (output_of w at.turns)
        wrote = subst (λ (l : List ℕ). Appends old new' l) (append-nil (output_of w at.turns)) (Appends-trans old new new' (output_of w at.turns) [] at.written nothing)

        go : (o l : Option (List ℕ)) → IfSome o (λ i. StillAsks w i l at.turns lines v) → (l' : Option (List ℕ)) → IfSome l (λ rest. AsksNext (lines + 1) v.last v.events rest l' held (Ok (Do turn))) → IfSome o (λ i. IsAtEvent w i at.turns line)
        go None l s l' a = tt
        go (Some i) None s l' a = absurd s
        go (Some i) (Some rest) s None a = absurd a
        go (Some i) (Some rest) s (Some more) (text, read, asks) =
            at-event i rest line (turn_seen turn held) s is (subst (λ (ls : List (List ℕ)). AsksFor (lines + 1) v.last v.events ls (turn_seen turn held)) (sym read.0) asks) lacks
    ends-turn v' new' Write (grown, is, (front, back, split, some, wrote)) =
        rw is (record {
          turns = turns grown;
          done = done grown;
          ends = (no-more grown, (at.turns, t grown, front, back, refl, line grown ∙ split, some, Appends-trans old new new' (output_of w at.turns) front at.written wrote), go input left' (asked grown));
        })
      where
        go : (o l : Option (List ℕ)) → IfSome o (λ i. StillAsks w i l (turns grown) (lines + 1) (step_taken v (t grown)).state) → IfSome o (λ i. (line : ℕ) × (left : List (List ℕ)) × IsUpTo w i (turns grown) line left)
        go None l s = tt
        go (Some i) None s = absurd s
        go (Some i) (Some rest) s = (lines + 1 + 1, lines_of rest, up-to-next w (step_taken v (t grown)).state i rest (turns grown) (lines + 1) (done grown).state s)

-- ---- what a line asks for, by the core's clock and count of events

-- what the next line asks for
pub by-clock : (number : ℕ) (v : State) (left left' : Option (List ℕ)) (held : List ℕ) (r : Result Asked ReplayError) (last events : ℕ) → last ≡ v.last → events ≡ v.events → IfSome left (λ rest. AsksNext number last events rest left' held r) → IfSome left (λ rest. AsksNext number v.last v.events rest left' held r)
by-clock number v left left' held r last events p q asks =
    subst (λ (e : ℕ). IfSome left (λ rest. AsksNext number v.last e rest left' held r)) q
    (subst (λ (l : ℕ). IfSome left (λ rest. AsksNext number l events rest left' held r)) p asks)

-- what may be done
pub may-by-clock : (v : State) (held : List ℕ) (r : Result Asked ReplayError) (last events : ℕ) → last ≡ v.last → events ≡ v.events → IfDo (MayBeDone last events) held r → IfDo (MayBeDone v.last v.events) held r
may-by-clock v held r last events p q may =
    subst (λ (e : ℕ). IfDo (MayBeDone v.last e) held r) q
    (subst (λ (l : ℕ). IfDo (MayBeDone l events) held r) p may)

-- what is asked for, by the value returned
pub as-asked : (number last events : ℕ) (left left' : Option (List ℕ)) (held : List ℕ) (a b : Asked) → a ≡ b → IfSome left (λ rest. AsksNext number last events rest left' held (Ok a)) → IfSome left (λ rest. AsksNext number last events rest left' held (Ok b))
as-asked number last events left left' held a b e asks = subst (λ (x : Asked). IfSome left (λ rest. AsksNext number last events rest left' held (Ok x))) e asks

-- what may be done, by the value returned
pub as-may : (last events : ℕ) (held : List ℕ) (a b : Asked) → a ≡ b → IfDo (MayBeDone last events) held (Ok a) → IfDo (MayBeDone last events) held (Ok b)
as-may last events held a b e may = subst (λ (x : Asked). IfDo (MayBeDone last events) held (Ok x)) e may
