use Rattle.std.proofs.Common.{◌≡◌, ◌+◌, ℕ, Bool, List, Result, inr, refl, subst}
use Rattle.coap_endpoint.specs.declared.endpoint.Endpoint.{Endpoint}
use Rattle.coap_model.specs.Runs.{Turn}
use Rattle.coap_model.specs.State.{State, new_state}
use Rattle.coap_port.specs.Driven.{Ends}
use Rattle.coap_port.specs.declared.error.DriveError.{DriveError}
use Rattle.coap_port.specs.declared.stats.Stats.{Stats}
use Rattle.coap_proxyd.specs.Planning.{setting_of}
use Rattle.coap_proxyd.specs.Serving.{IsServedOver, driven_as}
use Rattle.coap_proxyd.proofs.serving.Server.serve_port.Goals as goal

-- driving a core is what the program does, if the core is the new one
driven : {P : Type 0} (gives : ℕ → P → ℕ → Turn → P → Type 0) (takes : P → Endpoint → List ℕ → Bool → P → Type 0) (clock failures : P → ℕ) (turns asked : ℕ) (proxy core after : State) (p q : P) (r : Result Stats DriveError)
    → core ≡ proxy → turns ≡ asked → Ends (gives (core.setting.limits.datagram + 1)) takes clock failures turns core p after q r
    → IsServedOver (gives (proxy.setting.limits.datagram + 1)) takes clock failures asked proxy p q (driven_as r)
driven gives takes clock failures turns asked proxy core after p q r new same ends =
    inr (
      after,
      r,
      subst (λ (w : State). Ends (gives (w.setting.limits.datagram + 1)) takes clock failures asked w p after q r) new
          (subst (λ (n : ℕ). Ends (gives (core.setting.limits.datagram + 1)) takes clock failures n core p after q r) same ends),
      refl,
    )

pub returns : goal.returns
returns g c =
    rw c.driven.ensures
    (driven g.P.Port.gives g.P.Port.takes g.P.Port.clock g.P.Port.failures _ _ (new_state (setting_of c.args.self.plan c.args.start.first_id c.args.start.salt)) c.in-Ok.core _ c.args.port.now c.drive.new.port c.drive.result
    c.in-Ok.ensures c.turns_of-turns.ensures c.drive.ensures.ends)
