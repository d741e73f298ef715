-- What a recorded run leaves: the lines of its turns, each of which is read as its turn.
use Rattle.std.proofs.Common.{◌≡◌, ℕ, inl, inr, Bool, true, false, List, [], ◌∷◌, ◌++◌, Option, Some, None, ◌&&◌, not, ltb, refl, sym, ap, ◌∙◌, subst, append_assoc, append-nil}
use Rattle.std.specs.Io.KnownBytes.{Appends, append_known}
use Rattle.std.proofs.KnownBytes.{Appends-nil, Appends-trans}
use Rattle.std.proofs.lemmas.Bool.{false≢true}
use Rattle.coap_endpoint.specs.declared.endpoint.Endpoint.{Endpoint}
use Rattle.coap_model.specs.Runs.{Turn}
use Rattle.coap_model.specs.State.{State}
use Rattle.coap_lines.specs.Lines.{ended}
use Rattle.coap_lines.specs.Turns.{IsReadAs, turn_line, turn_text}
use Rattle.coap_port.specs.Driven.{Given, HandsOver, LeadsTo, is_arrival, last_moment, sent_at, state_by}
use Rattle.coap_recording.specs.Recorder.{AddsLine, AddsUnless, Gives, Recorder, Takes, Writes, WritesIf, recorded, with_line}
use Rattle.coap_recording.specs.Replayable.{texts_of}

-- the lines of turns whose lines are added at the end
pub ended-more : (lines : List (List ℕ)) (line : List ℕ) → ended (lines ++ line ∷ []) ≡ ended lines ++ (line ++ 10 ∷ [])
ended-more [] line = append-nil (line ++ 10 ∷ [])
ended-more (first ∷ lines) line = ap (λ (l : List ℕ). (first ++ 10 ∷ []) ++ l) (ended-more lines line) ∙ sym (append_assoc (first ++ 10 ∷ []) (ended lines) (line ++ 10 ∷ []))

-- what is known, with what is kept, is what was known with both
known-more : (known : Option (List ℕ)) (xs ys : List ℕ) → append_known known (xs ++ ys) ≡ append_known (append_known known xs) ys
known-more None xs ys = refl
known-more (Some zs) xs ys = ap Some (sym (append_assoc zs xs ys))

-- known bytes grow by what is appended to them
grown : (known : Option (List ℕ)) (ys : List ℕ) → Appends known (append_known known ys) ys
grown None ys = tt
grown (Some zs) ys = refl

-- what is written was kept before: it stays recorded
moved : (old new : Option (List ℕ)) (xs : List ℕ) → Appends old new xs → Appends (append_known old xs) (append_known new []) []
moved None new xs a = tt
moved (Some zs) None xs a = absurd a
moved (Some zs) (Some ys) xs a = ap (λ (l : List ℕ). l ++ []) a

-- each line is read as its turn, after the moment of the turn before
abbrev pub AreRead : ℕ → List Given → Type 0
AreRead first [] = Unit {0}
AreRead first (g ∷ before) = IsReadAs (last_moment first before) (turn_text g.turn) g.turn × AreRead first before

module _ {P W : Type 0} (contents : W → Option (List ℕ)) where
  -- a write leaves the port, and what was recorded, unless the recording ended
  written : (r s : Recorder P W) → Writes contents r s → s.ended ≡ false → (r.ended ≡ false) × Appends (recorded contents r) (recorded contents s) []
  written r s (inl (a, still, is)) on =
      (ap (λ (x : Recorder P W). x.ended) (sym is) ∙ on, rw (ap (λ (x : Recorder P W). x.pending) is) (moved (contents r.writer) (contents s.writer) r.pending a))
  written r s (inr (done, rest, split, some, a, failed, is)) on = absurd (false≢true (sym on ∙ ap (λ (x : Recorder P W). x.ended) is))

  written-if : (b : Bool) (r s : Recorder P W) → WritesIf contents b r s → s.ended ≡ false → (r.ended ≡ false) × Appends (recorded contents r) (recorded contents s) []
  written-if true r s writes on = written r s writes on
  written-if false r s same on =
      (ap (λ (x : Recorder P W). x.ended) (sym same) ∙ on, subst (λ (x : Recorder P W). Appends (recorded contents r) (recorded contents x) []) (sym same) (Appends-nil (recorded contents r)))

  -- a line that is kept is recorded
  kept : (m s : Recorder P W) (line : List ℕ) (b : Bool) → m.ended ≡ b → s ≡ with_line m b line → s.ended ≡ false → (m.ended ≡ false) × Appends (recorded contents m) (recorded contents s) line
  kept m s line true has same on = absurd (false≢true (sym on ∙ ap (λ (x : Recorder P W). x.ended) same ∙ has))
  kept m s line false has same on =
      let grows : Appends (recorded contents m) (append_known (contents m.writer) (m.pending ++ line)) line =
      subst (λ (k : Option (List ℕ)). Appends (recorded contents m) k line) (sym (known-more (contents m.writer) m.pending line)) (grown (recorded contents m) line) in
      (has, subst (λ (x : Recorder P W). Appends (recorded contents m) (recorded contents x) line) (sym same) grows)

  -- a line that is added is recorded, unless the recording ended
  added : (r s : Recorder P W) (most : ℕ) (line : List ℕ) → AddsLine contents r most line s → s.ended ≡ false → (r.ended ≡ false) × Appends (recorded contents r) (recorded contents s) line
  added r s most line (m, writes, is) on =
      let last = kept m s line m.ended refl is on in
      let first = written-if _ r m writes last.0 in
      (first.0, Appends-trans (recorded contents r) (recorded contents m) (recorded contents s) [] line first.1 last.1)

  -- the line of a turn is recorded, unless the recording ended
  added-turn : (ends long : Bool) (r s : Recorder P W) (turn : Turn) → r.ended ≡ ends → AddsUnless contents ends long r turn s → s.ended ≡ false → (r.ended ≡ false) × Appends (recorded contents r) (recorded contents s) (turn_line turn)
  added-turn true long r s turn has same on = absurd (false≢true (sym on ∙ ap (λ (x : Recorder P W). x.ended) same ∙ has))
  added-turn false true r s turn has same on = absurd (false≢true (sym on ∙ ap (λ (x : Recorder P W). x.ended) same))
  added-turn false false r s turn has adds on = added r s _ (turn_line turn) adds on

  module _ (gives : ℕ → P → ℕ → Turn → P → Type 0) (takes : P → Endpoint → List ℕ → Bool → P → Type 0) (clock : P → ℕ) where
    -- what a turn that was given leaves
    record IsGiven (r : Recorder P W) (turn : Turn) (s : Recorder P W) : Type 0 where
      pub before : r.ended ≡ false
      pub grows : Appends (recorded contents r) (recorded contents s) (turn_line turn)
      pub read : IsReadAs (clock r.port) (turn_text turn) turn
      pub moment : clock s.port ≡ turn.now

    given : (room : ℕ) (r s : Recorder P W) (wait : ℕ) (turn : Turn) → Gives gives clock contents room r wait turn s → s.ended ≡ false → IsGiven r turn s
    given room r s wait turn g on =
        let held : Recorder P W = record g.held { port = g.port; idle = ltb 0 wait && not (is_arrival turn.event) } in
        let last = added-turn g.held.ended _ held s turn refl g.added on in
        let first = written-if _ r g.held g.writes last.0 in
        record {
          before = first.0;
          grows = Appends-trans (recorded contents r) (recorded contents g.held) (recorded contents s) [] (turn_line turn) first.1 last.1;
          read = g.read on;
          moment = g.moment;
        }

    -- nothing is recorded of what is handed over
    handed : (m q : Recorder P W) (datagram : Option (Endpoint × List ℕ)) (went : Bool) → HandsOver (Takes takes clock) m datagram went q
        → (m.ended ≡ q.ended) × (recorded contents q ≡ recorded contents m) × (clock q.port ≡ clock m.port)
    handed m q None went same = (ap (λ (x : Recorder P W). x.ended) (sym same), ap (recorded contents) same, ap (λ (x : Recorder P W). clock x.port) same)
    handed m q (Some d) went took = (ap (λ (x : Recorder P W). x.ended) (sym took.rest), ap (recorded contents) took.rest, took.moment)

    -- what a run leaves
    pub record IsRecorded (p q : Recorder P W) (givens : List Given) : Type 0 where
      pub before : p.ended ≡ false
      pub grows : Appends (recorded contents p) (recorded contents q) (ended (texts_of givens))
      pub read : AreRead (clock p.port) givens
      pub moment : clock q.port ≡ last_moment (clock p.port) givens

    pub run-recorded : (room : ℕ) (w : State) (p q : Recorder P W) (givens : List Given) → LeadsTo (Gives gives clock contents room) (Takes takes clock) w p givens q → q.ended ≡ false → IsRecorded p q givens
    run-recorded room w p q [] same on = record {
      before = ap (λ (x : Recorder P W). x.ended) (sym same) ∙ on;
      grows = subst (λ (x : Recorder P W). Appends (recorded contents p) (recorded contents x) []) (sym same) (Appends-nil (recorded contents p));
      read = tt;
      moment = ap (λ (x : Recorder P W). clock x.port) same;
    }
    run-recorded room w p q (g ∷ before) (m, leads, (n, gave, hands)) on =
        let over = handed n q (sent_at (state_by w before) g) g.went hands in
        let turn = given room m n g.wait g.turn gave (over.0 ∙ on) in
        let front = run-recorded room w p m before leads turn.before in
        let more : Appends (recorded contents p) (recorded contents n) (ended (texts_of before) ++ turn_line g.turn) =
        Appends-trans (recorded contents p) (recorded contents m) (recorded contents n) (ended (texts_of before)) (turn_line g.turn) front.grows turn.grows in
        record {
          before = front.before;
          grows = subst (λ (l : List ℕ). Appends (recorded contents p) (recorded contents q) l) (sym (ended-more (texts_of before) (turn_text g.turn)))
              (subst (λ (k : Option (List ℕ)). Appends (recorded contents p) k (ended (texts_of before) ++ turn_line g.turn)) (sym over.1) more);
          read = (subst (λ (n : ℕ). IsReadAs n (turn_text g.turn) g.turn) front.moment turn.read, front.read);
          moment = over.2 ∙ turn.moment;
        }
