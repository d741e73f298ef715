use Rattle.std.proofs.Common.{◌+◌, ℕ, Bool, List, Result, Ok, Err}
use Rattle.coap_endpoint.specs.declared.endpoint.Endpoint.{Endpoint}
use Rattle.coap_model.specs.Runs.{Turn}
use Rattle.coap_model.specs.State.{State}
use Rattle.coap_core.specs.Told.{Told}
use Rattle.coap_port.specs.Driven.{Ends, EndsWatched}
use Rattle.coap_port.specs.declared.error.DriveError.{DriveError}
use Rattle.coap_port.specs.declared.error.DriveError.TheVariants.{Port, OutOfMemory}
use Rattle.coap_port.specs.declared.stats.Stats.{Stats}
use Rattle.coap_port.proofs.drives.drive.Goals as goal

-- what ends with a watcher ends without it
without-watcher : {P W : Type 0} (gives : P → ℕ → Turn → P → Type 0) (takes : P → Endpoint → List ℕ → Bool → P → Type 0) (sees : W → Told → W → Type 0) (clock failures : P → ℕ) (turns : ℕ)
    (w : State) (p : P) (a : W) (v : State) (q : P) (b : W) (r : Result Stats DriveError)
    → EndsWatched gives takes sees clock failures turns w p a v q b r → Ends gives takes clock failures turns w p v q r
without-watcher gives takes sees clock failures turns w p a v q b (Ok s) ends = (ends.0.driven, ends.1, ends.2)
without-watcher gives takes sees clock failures turns w p a v q b (Err (Port s)) ends = ((ends.0.0, ends.0.1.driven), ends.1)
without-watcher gives takes sees clock failures turns w p a v q b (Err OutOfMemory) ends = (ends.0, ends.1)

pub returns-clause-ends : goal.returns-clause-ends
returns-clause-ends g c =
    without-watcher (g.P.Port.gives (c.args.core.now.setting.limits.datagram + 1)) g.P.Port.takes _ g.P.Port.clock g.P.Port.failures _ _ _ _ _ _ _ _ c.drive_watched.ensures.ends
