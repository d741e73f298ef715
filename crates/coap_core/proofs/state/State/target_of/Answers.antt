use Rattle.std.proofs.Common.{inr, ok_or, Option, sym, ap, ◌∙◌}
use Rattle.coap_endpoint.specs.declared.target.Target.{Target}
use Rattle.coap_target.specs.declared.error.TargetError.TheVariants.{NotFound}
use Rattle.coap_core.proofs.Uris.{no-uri}
use Rattle.coap_core.proofs.state.State.target_of.Goals as goal

pub returns-then-survey-clause-sound : goal.returns-then-survey-clause-sound
returns-then-survey-clause-sound g c = c.targets_fit_options.ensures c.self.inside.setting.routes c.args.request.now c.in_ok-target.target (rw (← c.self.view_is) at c.requires.can.routes) c.requires.known.screened c.in_ok-target.ensures

pub returns-in-Some-clause-ok : goal.returns-in-Some-clause-ok
returns-in-Some-clause-ok g c =
    let m = c.args.request.now in
    let none = no-uri m (sym c.requires.known.uri ∙ c.if-survey.false) in
    rw (← c.self.view_is) (c.requests_to_the_proxy_are_mapped.ensures c.self.inside.setting.routes m none.0 none.1 ∙ ap (λ (o : Option Target). ok_or o NotFound) (sym c.in-Some.ensures.exact))

pub returns-in-Some-clause-sound : goal.returns-in-Some-clause-sound
returns-in-Some-clause-sound g c =
    let m = c.args.request.now in
    let none = no-uri m (sym c.requires.known.uri ∙ c.if-survey.false) in
    let is = c.requests_to_the_proxy_are_mapped.ensures c.self.inside.setting.routes m none.0 none.1 ∙ ap (λ (o : Option Target). ok_or o NotFound) (sym c.in-Some.ensures.exact) in
    c.targets_fit_options.ensures c.self.inside.setting.routes m _ c.in-Some.ensures.sound c.requires.known.screened is

pub returns-in-None-clause-err : goal.returns-in-None-clause-err
returns-in-None-clause-err g c =
    let m = c.args.request.now in
    let none = no-uri m (sym c.requires.known.uri ∙ c.if-survey.false) in
    inr (rw (← c.self.view_is) (c.requests_to_the_proxy_are_mapped.ensures c.self.inside.setting.routes m none.0 none.1 ∙ ap (λ (o : Option Target). ok_or o NotFound) (sym c.in-None.ensures.exact)))
