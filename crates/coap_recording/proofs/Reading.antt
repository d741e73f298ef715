-- What a recording asks for: the turns that were recorded, in order.
use Rattle.std.proofs.Common.{◌≡◌, ◌+◌, ◌≤◌, ◌<◌, ◌^◌, ℕ, true, false, List, [], ◌∷◌, ◌++◌, length, None, refl, sym, ap, ap₂, ◌∙◌, append_assoc, append-nil, arith}
use Rattle.std.specs.List.{AllByRecursion}
use Rattle.std.proofs.lemmas.Bool.{le-ltb, lt-ltb}
use Rattle.std.proofs.lemmas.List.{length-append}
use Rattle.coap_model.specs.Runs.{Turn, turns_of}
use Rattle.coap_lines.specs.Lines.{ended, is_skipped, is_too_long, lines_of}
use Rattle.coap_lines.specs.Scripts.{Script, script_from, with_turn}
use Rattle.coap_lines.specs.Texts.{has}
use Rattle.coap_lines.specs.Turns.{IsReadAs, greatest, turn_text}
use Rattle.coap_lines.proofs.InputLines.{lines_of-ended}
use Rattle.coap_lines.proofs.TurnTexts.{turn_of-is, turn_of-written}
use Rattle.coap_port.specs.Driven.{Given, last_moment, taken_of}
use Rattle.coap_replay.specs.Replays.{with_turns}
use Rattle.coap_replay.proofs.Replaying.{turns_of-more}
use Rattle.coap_recording.specs.Replayable.{AreSkipped, in_order, texts_of}
use Rattle.coap_recording.proofs.Recorded.{AreRead}

-- lines, and then others
ended-append : (xs ys : List (List ℕ)) → ended (xs ++ ys) ≡ ended xs ++ ended ys
ended-append [] ys = refl
ended-append (x ∷ xs) ys = ap (λ (l : List ℕ). (x ++ 10 ∷ []) ++ l) (ended-append xs ys) ∙ sym (append_assoc (x ++ 10 ∷ []) (ended xs) (ended ys))

-- what holds of all lines of two lists
all-append : (P : List ℕ → Type 0) (xs ys : List (List ℕ)) → AllByRecursion P xs → AllByRecursion P ys → AllByRecursion P (xs ++ ys)
all-append P [] ys all more = more
all-append P (x ∷ xs) ys all more = (all.0, all-append P xs ys all.1 more)

-- a line that is read as a turn is read as it after an earlier moment too
earlier : (last first : ℕ) (line : List ℕ) (turn : Turn) → last ≤ first → IsReadAs first line turn → IsReadAs last line turn
earlier last first line turn before is =
    let (moment, draw, what, split, now, onward, number, says) = turn_of-is first line turn is.says in
    record { one = is.one; short = is.short; counts = is.counts; says = turn_of-written last line turn (moment, draw, what, split, now, omega (arith, before, onward), number, says) }

pub earlier-all : (last first : ℕ) (givens : List Given) → last ≤ first → AreRead first givens → AreRead last givens
earlier-all last first [] before are = tt
earlier-all last first (g ∷ []) before are = (earlier last first (turn_text g.turn) g.turn before are.0, tt)
earlier-all last first (g ∷ h ∷ givens) before are = (are.0, earlier-all last first (h ∷ givens) before are.1)

-- none of these lines contains a line feed
one-each : (first : ℕ) (givens : List Given) → AreRead first givens → AllByRecursion (λ line. has 10 line ≡ false) (texts_of givens)
one-each first [] are = tt
one-each first (g ∷ before) are = all-append (λ line. has 10 line ≡ false) (texts_of before) (turn_text g.turn ∷ []) (one-each first before are.1) (are.0.one, tt)

-- a line that is read as a turn asks for it
asks-turn : (number last events : ℕ) (line : List ℕ) (lines : List (List ℕ)) (turn : Turn) → IsReadAs last line turn → number ≤ greatest → events < 2 ^ 63
    → script_from number last events (line ∷ lines) ≡ with_turn turn (script_from (number + 1) turn.now (events + 1) lines)
unfolding script_from
asks-turn number last events line lines turn is within few =
    rw (is.short, le-ltb greatest number within, is.counts, is.says, lt-ltb events (2 ^ 63) few) refl

-- lines that are skipped ask for nothing
asks-nothing : (number last events : ℕ) (head lines : List (List ℕ)) → AllByRecursion (λ line. is_too_long line ≡ false) head → AllByRecursion (λ line. is_skipped line ≡ true) head
    → number + length head ≤ greatest + 1 → script_from number last events (head ++ lines) ≡ script_from (number + length head) last events lines
unfolding script_from
asks-nothing number last events [] lines short skipped within = ap (λ (n : ℕ). script_from n last events lines) (omega arith)
asks-nothing number last events (line ∷ head) lines short skipped within =
    let next = asks-nothing (number + 1) last events head lines short.1 skipped.1 (omega arith) in
    let here : script_from number last events (line ∷ head ++ lines) ≡ script_from (number + 1) last events (head ++ lines) =
    rw (short.0, le-ltb greatest number (omega arith), skipped.0) refl in
    let same : number + 1 + length head ≡ number + length (line ∷ head) = omega arith in
    here ∙ next ∙ ap (λ (n : ℕ). script_from n last events lines) same

-- the turns in order are as many
pub length-texts : (givens : List Given) → length (texts_of givens) ≡ length givens
length-texts [] = refl
length-texts (g ∷ before) = omega (arith, length-append (texts_of before) (turn_text g.turn ∷ []), length-texts before)

-- turns, and one more before the rest
with-more : (givens : List Given) (g : Given) (rest : Script) → with_turns (in_order givens) (with_turn g.turn rest) ≡ with_turns (in_order (g ∷ givens)) rest
with-more givens g rest =
    let turns : turns_of (in_order givens) ++ g.turn ∷ rest.turns ≡ turns_of (in_order givens ++ taken_of g ∷ []) ++ rest.turns =
    sym (ap (λ (l : List Turn). l ++ rest.turns) (turns_of-more (in_order givens) (taken_of g)) ∙ append_assoc (turns_of (in_order givens)) (g.turn ∷ []) rest.turns) in
    ap (λ (l : List Turn). record { turns = l; bad = rest.bad }) turns

-- the lines of turns ask for these turns, and then for what the other lines ask for
asks-turns : (number last events : ℕ) (givens : List Given) (lines : List (List ℕ)) → AreRead last givens → number + length givens ≤ greatest + 1 → events + length givens ≤ 2 ^ 63
    → script_from number last events (texts_of givens ++ lines) ≡ with_turns (in_order givens) (script_from (number + length givens) (last_moment last givens) (events + length givens) lines)
asks-turns number last events [] lines are within few = ap₂ (λ (n e : ℕ). script_from n last e lines) (omega arith) (omega arith)
asks-turns number last events (g ∷ before) lines are within few =
    let split : texts_of (g ∷ before) ++ lines ≡ texts_of before ++ turn_text g.turn ∷ lines = append_assoc (texts_of before) (turn_text g.turn ∷ []) lines in
    let front = asks-turns number last events before (turn_text g.turn ∷ lines) are.1 (omega arith) (omega arith) in
    let here = asks-turn (number + length before) (last_moment last before) (events + length before) (turn_text g.turn) lines g.turn are.0 (omega arith) (omega arith) in
    let after = script_from (number + length before + 1) g.turn.now (events + length before + 1) lines in
    let counts : number + length before + 1 ≡ number + length (g ∷ before) = omega arith in
    let handled : events + length before + 1 ≡ events + length (g ∷ before) = omega arith in
    ap (script_from number last events) split ∙ front ∙ ap (with_turns (in_order before)) here ∙ with-more before g after
    ∙ ap (λ (n : ℕ). with_turns (in_order (g ∷ before)) (script_from n g.turn.now (events + length before + 1) lines)) counts
    ∙ ap (λ (n : ℕ). with_turns (in_order (g ∷ before)) (script_from (number + length (g ∷ before)) g.turn.now n lines)) handled

-- a text that begins with lines that are skipped, and goes on with those of turns, asks for these
-- turns and nothing else
pub asks-all : (last events : ℕ) (head : List (List ℕ)) (text : List ℕ) (givens : List Given) → AreSkipped head text → AreRead last givens
    → length head + length givens ≤ greatest → events + length givens ≤ 2 ^ 63
    → script_from 1 last events (lines_of (text ++ ended (texts_of givens))) ≡ record { turns = turns_of (in_order givens); bad = None }
unfolding script_from
asks-all last events head text givens skipped are within few =
    let whole : text ++ ended (texts_of givens) ≡ ended (head ++ texts_of givens) = ap (λ (t : List ℕ). t ++ ended (texts_of givens)) skipped.whole ∙ sym (ended-append head (texts_of givens)) in
    let one = all-append (λ line. has 10 line ≡ false) head (texts_of givens) skipped.one (one-each last givens are) in
    let lines : lines_of (text ++ ended (texts_of givens)) ≡ head ++ texts_of givens = ap lines_of whole ∙ lines_of-ended (head ++ texts_of givens) one in
    let none = asks-nothing 1 last events head (texts_of givens) skipped.short skipped.skipped (omega arith) in
    let all = asks-turns (1 + length head) last events givens [] are (omega arith) few in
    ap (script_from 1 last events) lines ∙ none ∙ ap (script_from (1 + length head) last events) (sym (append-nil (texts_of givens))) ∙ all
    ∙ ap (λ (l : List Turn). record { turns = l; bad = None }) (append-nil (turns_of (in_order givens)))
