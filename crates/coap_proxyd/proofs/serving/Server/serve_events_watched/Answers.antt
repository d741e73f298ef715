use Rattle.std.proofs.Common.{ℕ, Ok, subst}
use Rattle.coap_model.specs.State.{State, new_state}
use Rattle.coap_proxyd.specs.Planning.{setting_of}
use Rattle.coap_proxyd.specs.Serving as spec
use Rattle.coap_replay.proofs.Telling.{told-none}
use Rattle.coap_proxyd.proofs.serving.Server.serve_events_watched.Goals as goal

pub returns-in_default-clause-told : goal.returns-in_default-clause-told
returns-in_default-clause-told g c = (new_state (setting_of c.args.self.plan 1 0), Ok 0, told-none g.V.Watch.sees (new_state (setting_of c.args.self.plan 1 0)) c.args.watcher.now)

pub returns-clause-served : goal.returns-clause-served
returns-clause-served g c =
    subst (λ (n : ℕ). spec.IsServed n (new_state (setting_of c.args.self.plan 1 0)) (g.R.Read.remaining c.args.input) (g.W.Write.contents c.args.output.now.writer) (g.W.Write.contents c.serve_on.new.output.writer) c.serve_on.result) c.turns_of-turns.ensures
    (subst (λ (w : State). spec.IsServed c.turns_of-turns.result w (g.R.Read.remaining c.args.input) (g.W.Write.contents c.args.output.now.writer) (g.W.Write.contents c.serve_on.new.output.writer) c.serve_on.result) c.in-Ok.ensures c.serve_on.ensures.served)
