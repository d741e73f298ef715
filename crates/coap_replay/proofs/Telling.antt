-- A watcher that is told turn by turn.
use Rattle.std.proofs.Common.{◌≡◌, ◌≢◌, ◌++◌, ◌∙◌, ℕ, true, List, [], ◌∷◌, Option, Some, None, false, Result, Ok, Err, inl, inr, refl, sym, ap, subst}
use Rattle.std.specs.Io.KnownBytes.{Appends}
use Rattle.coap_core.specs.Done.{did_of, DoesSo}
use Rattle.coap_message.specs.Datagram.{Datagram}
use Rattle.coap_model.specs.Events.{Event}
use Rattle.coap_model.specs.History.{grown_of}
use Rattle.coap_model.specs.Step.{step_of}
use Rattle.coap_model.specs.Deeds.{outcome_of}
use Rattle.coap_model.specs.declared.deed.Did.{Did}
use Rattle.coap_model.specs.Runs.{Run, Taken, Turn, one_turn, step_taken}
use Rattle.coap_model.specs.State.{Step, State}
use Rattle.coap_core.specs.Told as watch
use Rattle.coap_replay.specs.Replays.{DoesTurn, line_for, run_at, taken, state_after}
use Rattle.coap_replay.specs.Watched.{AreTold, DoesTold, EndsTold, IsToldRun, TellsTurn, lost_in, told_in}
use Rattle.coap_replay.specs.declared.error.ReplayError.{ReplayError}
use Rattle.coap_replay.specs.declared.error.ReplayError.TheVariants.{BadEvent, OutOfMemory, Read, Write}
use Rattle.coap_replay.proofs.Replaying.{run-apart, run-more}

-- the tables after a turn and more turns
after-more : (w : State) (u : Taken) (ts : List Taken) → state_after w (u ∷ ts) ≡ state_after (step_taken w u).state ts
after-more w u ts = run-apart (one_turn (run_at w []) u) (run_at (step_taken w u).state []) ts refl

-- what is told of a step
abbrev pub told_of : ℕ → ℕ → Event → Did → List ℕ → State → watch.Told
told_of now draw event did bytes w = record { turn = record { now = now; draw = draw; event = event }; did = Some did; bytes = bytes; went = true; state = w }

-- a step was done, and its line was written in part
pub failed-write : (w v : State) (t : Turn) (event : Event) (did : Did) (out out' : Datagram) (old new : Option (List ℕ)) (number : ℕ) (text : List ℕ) → event ≡ t.event
    → DoesSo (step_of w t.now t.draw (grown_of (outcome_of did.deed)) event) did out out' v → text ≡ line_for t.now did.send out'.bytes
    → ((done rest : List ℕ) × (text ≡ done ++ rest) × (rest ≢ []) × Appends old new done) → DoesTurn w v t old new number (Err Write)
failed-write w v t event did out out' old new number text same does line front =
    let done = subst (λ (e : Event). DoesSo (step_of w t.now t.draw (grown_of (outcome_of did.deed)) e) did out out' v) same does in
    let step : Step = step_of w t.now t.draw (grown_of (outcome_of did.deed)) t.event in
    let sent : line_for t.now step.report.send step.bytes ≡ text =
    sym (line ∙ ap (λ (r : Did). line_for t.now r.send out'.bytes) done.0 ∙ ap (λ (d : Datagram). line_for t.now step.report.send d.bytes) done.1) in
    (grown_of (outcome_of did.deed), done.2, (front.0, front.1, sent ∙ front.2, front.3, front.4))

module _ {V : Type 0} (sees : V → watch.Told → V → Type 0) where
  -- a step that was done is told
  pub step-told : (w v : State) (t : Turn) (event : Event) (did : Did) (out out' : Datagram) (a b : V) → event ≡ t.event → DoesSo (step_of w t.now t.draw (grown_of (outcome_of did.deed)) event) did out out' v
      → sees a (told_of t.now t.draw event did out'.bytes v) b → DoesTold sees w a v b t
  step-told w v t event did out out' a b same does seen =
      let done = subst (λ (e : Event). DoesSo (step_of w t.now t.draw (grown_of (outcome_of did.deed)) e) did out out' v) same does in
      let step : Step = step_of w t.now t.draw (grown_of (outcome_of did.deed)) t.event in
      let is : told_of t.now t.draw event did out'.bytes v ≡ told_of t.now t.draw t.event (did_of step) step.bytes step.state =
      ap (λ (e : Event). told_of t.now t.draw e did out'.bytes v) same
      ∙ ap (λ (r : Did). told_of t.now t.draw t.event r out'.bytes v) done.0
      ∙ ap (λ (d : Datagram). told_of t.now t.draw t.event (did_of step) d.bytes v) done.1
      ∙ ap (told_of t.now t.draw t.event (did_of step) step.bytes) done.2 in
      (grown_of (outcome_of did.deed), done.2, subst (λ (u : watch.Told). sees a u b) is seen)

  -- a turn that ran out of memory is told as that
  pub lost-told : (w v : State) (t : Turn) (event : Event) (number : ℕ) (a b : V) → event ≡ t.event → v ≡ w
      → sees a (record { turn = record { now = t.now; draw = t.draw; event = event }; did = None; bytes = []; went = false; state = v }) b → TellsTurn sees w a v b t (Err (OutOfMemory number))
  lost-told w v t event number a b same still seen =
      (still, subst (λ (u : watch.Told). sees a u b) (ap (λ (e : Event). record { turn = record { now = t.now; draw = t.draw; event = e }; did = None; bytes = []; went = false; state = v }) same ∙ ap (λ (x : State). lost_in x t) still) seen)

  -- one more turn is told
  more : (w : State) (a m b : V) (ts : List Taken) (t : Taken) → AreTold sees w a ts m → sees m (told_in (state_after w ts) t) b → AreTold sees w a (ts ++ t ∷ []) b
  more w a m b [] t told one = (b, subst (λ (x : V). sees x (told_in w t) b) told one, refl)
  more w a m b (u ∷ ts) t told one =
      (told.0, told.1, more (step_taken w u).state told.0 m b ts t told.2 (subst (λ (v : State). sees m (told_in v t) b) (after-more w u ts) one))

  -- nothing is told at first
  pub told-none : (w : State) (a : V) → IsToldRun sees w a w a
  told-none w a = record { turns = []; state = refl; told = refl }

  -- a turn that was done is told
  done-told : (w : State) (a : V) (v : State) (m : V) (v' : State) (b : V) (t : Turn) → IsToldRun sees w a v m → DoesTold sees v m v' b t → IsToldRun sees w a v' b
  done-told w a v m v' b t is one =
      let u : Taken = taken t one.0 in
      record {
        turns = is.turns ++ u ∷ [];
        state = one.1 ∙ ap (λ (x : State). (step_taken x u).state) is.state ∙ sym (ap (λ (r : Run). r.state) (run-more (run_at w []) is.turns u));
        told = more w a m b is.turns u is.told (subst (λ (x : State). sees m (told_in x u) b) is.state one.2);
      }

  -- after a turn that was done, more may be told
  pub told-more : (w : State) (a : V) (v : State) (m : V) (v' : State) (b : V) (t : Turn) → IsToldRun sees w a v m → TellsTurn sees v m v' b t (Ok tt) → IsToldRun sees w a v' b
  told-more w a v m v' b t is one = done-told w a v m v' b t is one

  -- a replay ends with a turn that wasn't done, or whose line wasn't written
  pub ends-with : (T : Type 0) (w : State) (a : V) (v : State) (m : V) (v' : State) (b : V) (t : Turn) (e : ReplayError) → IsToldRun sees w a v m → TellsTurn sees v m v' b t (Err e) → EndsTold sees {T = T} w a v' b (Err e)
  ends-with T w a v m v' b t (BadEvent line) is one = absurd one
  ends-with T w a v m v' b t (OutOfMemory line) is one =
      inr (m, t, rw one.0 is, rw one.0 one.1)
  ends-with T w a v m v' b t Read is one = absurd one
  ends-with T w a v m v' b t Write is one = done-told w a v m v' b t is one

  -- a replay ends without one more turn
  pub ends-without : (T : Type 0) (w : State) (a : V) (v : State) (b : V) (r : Result T ReplayError) → IsToldRun sees w a v b → EndsTold sees w a v b r
  ends-without T w a v b (Ok n) is = is
  ends-without T w a v b (Err (BadEvent line)) is = is
  ends-without T w a v b (Err (OutOfMemory line)) is = inl is
  ends-without T w a v b (Err Read) is = is
  ends-without T w a v b (Err Write) is = is
