use Rattle.std.proofs.Common.{◌≡◌, ◌+◌, ℕ, Bool, List, Result, inr, refl, subst}
use Rattle.coap_endpoint.specs.declared.endpoint.Endpoint.{Endpoint}
use Rattle.coap_model.specs.Runs.{Turn}
use Rattle.coap_model.specs.State.{State, new_state}
use Rattle.coap_core.specs.Told.{Told}
use Rattle.coap_port.specs.Driven.{EndsWatched}
use Rattle.coap_port.specs.declared.error.DriveError.{DriveError}
use Rattle.coap_port.specs.declared.stats.Stats.{Stats}
use Rattle.coap_proxyd.specs.Planning.{setting_of}
use Rattle.coap_proxyd.specs.Serving.{IsWatchedOver, counted_as}
use Rattle.coap_proxyd.proofs.serving.Server.serve_watched.Goals as goal

-- driving a core is what the program does, if the core is the new one
driven : {P W : Type 0} (gives : ℕ → P → ℕ → Turn → P → Type 0) (takes : P → Endpoint → List ℕ → Bool → P → Type 0) (sees : W → Told → W → Type 0) (clock failures : P → ℕ) (turns asked : ℕ) (proxy core after : State) (p q : P) (a b : W)
    (r : Result Stats DriveError) → core ≡ proxy → turns ≡ asked → EndsWatched (gives (core.setting.limits.datagram + 1)) takes sees clock failures turns core p a after q b r
    → IsWatchedOver (gives (proxy.setting.limits.datagram + 1)) takes sees clock failures asked proxy p a q b (counted_as after r)
driven gives takes sees clock failures turns asked proxy core after p q a b r new same ends =
    inr (
      after,
      r,
      subst (λ (w : State). EndsWatched (gives (w.setting.limits.datagram + 1)) takes sees clock failures asked w p a after q b r) new
          (subst (λ (n : ℕ). EndsWatched (gives (core.setting.limits.datagram + 1)) takes sees clock failures n core p a after q b r) same ends),
      refl,
    )

pub returns : goal.returns
returns g c =
    rw c.counted.ensures
    (driven g.P.Port.gives g.P.Port.takes g.W.Watch.sees g.P.Port.clock g.P.Port.failures _ _ (new_state (setting_of c.args.self.plan c.args.start.first_id c.args.start.salt)) c.in-Ok.core _ c.args.port.now c.drive_watched-driven.new.port
    c.args.watcher.now c.drive_watched-driven.new.watcher c.drive_watched-driven.result c.in-Ok.ensures c.turns_of-turns.ensures c.drive_watched-driven.ensures.ends)
