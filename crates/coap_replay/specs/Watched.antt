-- What a watcher of a replay is told.
use Rattle.std.specs.Prelude.{◌≡◌, ◌⊎◌, Bool, true, false, List, [], ◌∷◌, Some, None, Result, Ok, Err}
use Rattle.coap_model.specs.Runs.{Taken, Turn, step_taken}
use Rattle.coap_model.specs.State.{State}
use Rattle.coap_core.specs.Done.{did_of}
use Rattle.coap_core.specs.Told as watch
use Rattle.coap_replay.specs.Replays.{taken, state_after}
use Rattle.coap_replay.specs.declared.error.ReplayError.{ReplayError}
use Rattle.coap_replay.specs.declared.error.ReplayError.TheVariants.{BadEvent, OutOfMemory, Read, Write}

-- what is told of a turn that a proxy does
abbrev pub told_in : State → Taken → watch.Told
told_in w t = record {
  turn = t.turn;
  did = Some (did_of (step_taken w t));
  bytes = (step_taken w t).bytes;
  went = true;
  state = (step_taken w t).state;
}

-- what is told of a turn that ran out of memory: nothing was done
abbrev pub lost_in : State → Turn → watch.Told
lost_in w t = record { turn = t; did = None; bytes = []; went = false; state = w }

module _ {V : Type 0} (sees : V → watch.Told → V → Type 0) where
  -- it was told of these turns of a proxy, the oldest first, and of nothing else
  abbrev pub AreTold : State → V → List Taken → V → Type 0
  AreTold w a [] b = b ≡ a
  AreTold w a (t ∷ turns) b =
      (m : V) × sees a (told_in w t) m × AreTold (step_taken w t).state m turns b

  -- it was told of turns that lead from a proxy to what the proxy is now
  pub record IsToldRun (w : State) (a : V) (v : State) (b : V) : Type 0 where
    pub turns : List Taken
    pub state : v ≡ state_after w turns
    pub told : AreTold w a turns b

  -- a turn was done, and it was told of that
  abbrev pub DoesTold : State → V → State → V → Turn → Type 0
  DoesTold w a v b t = (grown : Bool) × (v ≡ (step_taken w (taken t grown)).state)
      × sees a (told_in w (taken t grown)) b

  -- the same, or memory ran out, so that nothing was done, and it was told of that
  abbrev pub TellsTurn : State → V → State → V → Turn → Result (Unit {0}) ReplayError → Type 0
  TellsTurn w a v b t (Ok u) = DoesTold w a v b t
  TellsTurn w a v b t (Err (BadEvent line)) = ⊥
  TellsTurn w a v b t (Err (OutOfMemory line)) = (v ≡ w) × sees a (lost_in w t) b
  TellsTurn w a v b t (Err Read) = ⊥
  TellsTurn w a v b t (Err Write) = DoesTold w a v b t

  -- it was told of the turns that a replay did, which ended so; if memory ran out for one more, it
  -- was told of that as well, which it wasn't if memory ran out before the first line
  abbrev pub EndsTold : {T : Type 0} → State → V → State → V → Result T ReplayError → Type 0
  EndsTold w a v b (Ok n) = IsToldRun w a v b
  EndsTold w a v b (Err (BadEvent line)) = IsToldRun w a v b
  EndsTold w a v b (Err (OutOfMemory line)) = IsToldRun w a v b
      ⊎ ((m : V) × (t : Turn) × IsToldRun w a v m × sees m (lost_in v t) b)
  EndsTold w a v b (Err Read) = IsToldRun w a v b
  EndsTold w a v b (Err Write) = IsToldRun w a v b
