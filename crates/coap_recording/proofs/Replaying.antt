-- A replay of a recording does what was done in the recorded run.
use Rattle.std.proofs.Common.{arith, ◌≡◌, inl, inr, ◌+◌, ◌≤◌, ◌^◌, ℕ, Bool, false, List, [], ◌∷◌, ◌++◌, length, Option, Some, None, Ok, option_map, refl, sym, ap, ap₂, ◌∙◌, subst}
use Rattle.std.specs.Prelude.{IfSome}
use Rattle.std.proofs.lemmas.List.{length-append}
use Rattle.std.specs.Io.KnownBytes.{Appends}
use Rattle.coap_endpoint.specs.declared.endpoint.Endpoint.{Endpoint}
use Rattle.coap_model.specs.Runs.{Run, Taken, Turn, one_turn, run_of, step_taken, turns_of}
use Rattle.coap_model.specs.State.{Step, State}
use Rattle.coap_lines.specs.Lines.{ended, lines_of}
use Rattle.coap_lines.specs.Scripts.{AsksFor, Script, script_from, with_turn}
use Rattle.coap_port.specs.Driven.{Given, IsDriven, run_at, run_by, sent_at, taken_of, state_by}
use Rattle.coap_port.specs.declared.stats.Stats.{Stats}
use Rattle.coap_replay.specs.Replays.{IsReplayed, IsThrough, line_sent, output_of, script_for, with_turns, state_after}
use Rattle.coap_replay.specs.Replays as replay
use Rattle.coap_replay.proofs.AllLines.{length-turns}
use Rattle.coap_replay.proofs.Replaying.{output-more, run-more, turns_of-more}
use Rattle.coap_recording.specs.Recorder.{Gives, Recorder, Takes, recorded}
use Rattle.coap_recording.specs.Replayable.{AreDone, AreSkipped, IsReplayable, in_order, line_for, lines_handed, memory_of, texts_of}
use Rattle.coap_recording.proofs.Recorded.{IsRecorded, run-recorded}
use Rattle.coap_recording.proofs.Reading.{asks-all, earlier-all}

-- the run of the turns in order is that over the port
pub run-same : (r : Run) (givens : List Given) → AreDone givens → run_of r (in_order givens) ≡ run_by r givens
run-same r [] done = refl
run-same r (g ∷ before) done =
    let front = run-same r before done.1 in
    let here : one_turn (run_by r before) (taken_of g) ≡ run_by r (g ∷ before) = rw done.0 refl in
    run-more r (in_order before) (taken_of g) ∙ ap (λ (q : Run). one_turn q (taken_of g)) front ∙ here

-- the line of what a step sends
line-same : (w : State) (g : Given) → g.lost ≡ false → line_sent w (taken_of g) ≡ line_for g.turn.now (sent_at w g)
line-same w g done = rw done (go (step_taken w (taken_of g)).report.send)
  where
    step : Step
    step = step_taken w (taken_of g)

    go : (send : Option Endpoint) → replay.line_for g.turn.now send step.bytes ≡ line_for g.turn.now (option_map (λ to. (to, step.bytes)) send)
    go None = refl
    go (Some to) = refl

-- what a replay of these turns writes is the lines of what was handed to the port
output-same : (w : State) (givens : List Given) → AreDone givens → output_of w (in_order givens) ≡ lines_handed w givens
output-same w [] done = refl
output-same w (g ∷ before) done =
    let at : (run_of (run_at w []) (in_order before)).state ≡ state_by w before = ap (λ (r : Run). r.state) (run-same (run_at w []) before done.1) in
    output-more (run_at w []) (in_order before) (taken_of g)
    ∙ ap₂ (λ (front line : List ℕ). front ++ line) (output-same w before done.1) (ap (λ (u : State). line_sent u (taken_of g)) at ∙ line-same (state_by w before) g done.0)

-- turns that are the same and found as much memory
pub taken-same : (ts us : List Taken) → turns_of ts ≡ turns_of us → memory_of ts ≡ memory_of us → ts ≡ us
taken-same [] [] turns memory = refl
taken-same [] (u ∷ us) turns memory = absurd cc
taken-same (t ∷ ts) [] turns memory = absurd cc
taken-same (t ∷ ts) (u ∷ us) turns memory =
    let turn : t.turn ≡ u.turn = cc in
    let grown : t.grown ≡ u.grown = cc in
    let rest : turns_of ts ≡ turns_of us = cc in
    let left : memory_of ts ≡ memory_of us = cc in
    let same : t ≡ u = ap₂ (λ (n : Turn) (b : Bool). record { turn = n; grown = b }) turn grown in
    ap₂ (λ (x : Taken) (xs : List Taken). x ∷ xs) same (taken-same ts us rest left)

-- the turns in order are as many
length-order : (givens : List Given) → length (turns_of (in_order givens)) ≡ length givens
length-order [] = refl
length-order (g ∷ before) = omega (arith, ap length (turns_of-more (in_order before) (taken_of g)), length-append (turns_of (in_order before)) (g.turn ∷ []), length-order before)

-- lines ask for a turn, and then perhaps for more
asked : (number last events : ℕ) (lines : List (List ℕ)) (turn : Turn) → AsksFor number last events lines turn → (rest : Script) × (script_from number last events lines ≡ with_turn turn rest)
asked number last events [] turn asks = absurd asks
asked number last events (line ∷ lines) turn asks = (script_from (number + 1) turn.now (events + 1) lines, asks.1)

none : (ts : List Turn) → length ts ≤ 0 → ts ≡ []
none [] few = refl
none (t ∷ ts) few = absurd (omega (arith, few))

-- as many turns of an input as it has are all of them
all-turns : (w : State) (input : List ℕ) (left : Option (List ℕ)) (turns : List Taken) (all : List Turn) (most : ℕ) → script_for w input ≡ record { turns = all; bad = None } → length all ≤ most
    → IsThrough w most input left turns → turns_of turns ≡ all
all-turns w input left turns all most asks few (inl (fewer, done)) = ap (λ (s : Script). s.turns) (sym done ∙ asks)
all-turns w input left turns all most asks few (inr (many, inl (nothing, unread))) =
    ap turns_of nothing ∙ sym (none all (omega (arith, few, many, ap length nothing)))
all-turns w input left turns all most asks few (inr (many, inr (before, last, are, done, text, rest, line, split, is, after, up, turn))) =
    let next = asked _ _ _ (lines_of text) last.turn turn in
    let whole : turns_of before ++ last.turn ∷ next.0.turns ≡ all = ap (λ (s : Script). s.turns) (sym (up.asked ∙ ap (with_turns before) next.1) ∙ asks) in
    let count = length-append (turns_of before) (last.turn ∷ next.0.turns) in
    let none-left : next.0.turns ≡ [] = none next.0.turns (omega (arith, few, many, ap length are, length-append before (last ∷ []), length-turns before, count, ap length whole)) in
    ap turns_of are ∙ turns_of-more before last ∙ ap (λ (l : List Turn). turns_of before ++ last.turn ∷ l) (sym none-left) ∙ whole

-- a replay that ends well, with as much memory, does what was done in the run
replayed : (w : State) (givens : List Given) (input : List ℕ) → AreDone givens → script_for w input ≡ record { turns = turns_of (in_order givens); bad = None }
    → (v : State) (most : ℕ) (left old new : Option (List ℕ)) (count : ℕ) (r : IsReplayed w v most (Some input) left old new (Ok count)) → length givens ≤ most
    → memory_of r.turns ≡ memory_of (in_order givens) → (v ≡ state_by w givens) × Appends old new (lines_handed w givens)
replayed w givens input done asks v most left old new count r few memory =
    let turns = all-turns w input left r.turns (turns_of (in_order givens)) most asks (omega (arith, few, length-order givens)) r.ends.3 in
    let same : r.turns ≡ in_order givens = taken-same r.turns (in_order givens) turns memory in
    let state : v ≡ state_by w givens = r.done.state ∙ ap (state_after w) same ∙ ap (λ (q : Run). q.state) (run-same (run_at w []) givens done) in
    let lines : output_of w r.turns ≡ lines_handed w givens = ap (output_of w) same ∙ output-same w givens done in
    (state, subst (λ (l : List ℕ). Appends old new l) lines r.ends.2)

-- a recording of a run can be replayed
module _ {P W : Type 0} (gives : ℕ → P → ℕ → Turn → P → Type 0) (takes : P → Endpoint → List ℕ → Bool → P → Type 0) (clock : P → ℕ) (contents : W → Option (List ℕ)) where
  pub replayable : (room first : ℕ) (w v : State) (p q : Recorder P W) (s : Stats) (head : List (List ℕ)) (text : List ℕ)
      → (run : IsDriven (Gives gives clock contents room) (Takes takes clock) first w p v q s) → AreDone run.givens → q.ended ≡ false → w.last ≤ clock p.port
      → length head + length run.givens ≤ 2 ^ 62 → w.events + length run.givens ≤ 2 ^ 63 → AreSkipped head text → recorded contents p ≡ Some text
      → IfSome (recorded contents q) (IsReplayable w run.givens)
  replayable room first w v p q s head text run done on onward lines events skipped known = go (recorded contents q) grows
    where
      is : IsRecorded contents gives takes clock p q run.givens
      is = run-recorded contents gives takes clock room w p q run.givens run.leads on

      grows : Appends (Some text) (recorded contents q) (ended (texts_of run.givens))
      grows = subst (λ (k : Option (List ℕ)). Appends k (recorded contents q) (ended (texts_of run.givens))) known is.grows

      go : (k : Option (List ℕ)) → Appends (Some text) k (ended (texts_of run.givens)) → IfSome k (IsReplayable w run.givens)
      go None a = tt
      go (Some input) a =
          let asks : script_for w input ≡ record { turns = turns_of (in_order run.givens); bad = None } =
          ap (script_for w) a ∙ asks-all w.last w.events head text run.givens skipped (earlier-all w.last (clock p.port) run.givens onward is.read) lines events in
          record { asks = asks; same = run-same (run_at w []) run.givens done; replayed = replayed w run.givens input done asks }
