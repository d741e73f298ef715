use Rattle.std.proofs.Common.{◌≡◌, ◌≢◌, ◌^◌, ◌<◌, ◌∙◌, ℕ, true, false, Some, length, sym, ap, subst}
use Rattle.std.specs.Prelude.{option_map}
use Rattle.coap_endpoint.specs.Endpoint.{same_endpoint}
use Rattle.coap_pending.specs.declared.exchange.Exchange.{Exchange}
use Rattle.coap_pending.specs.Table.{Numbered, Table, item_at}
use Rattle.coap_forward.specs.Messages.{token_of}
use Rattle.coap_core.proofs.Awaiting.{nobody-awaits, awaits-none, awaits-one, open-with}
use Rattle.coap_core.proofs.state.State.awaiting.Given.{Over}
use Rattle.coap_core.proofs.state.State.awaiting.Goals.{After-exchange}
use Rattle.coap_core.proofs.state.State.awaiting.Goals as goal

pub returns-in_err-number-clause-exact : goal.returns-in_err-number-clause-exact
returns-in_err-number-clause-exact g c =
    let m = c.args.response.now in
    let short : length m.token ≢ 8 = rw (← c.token.ensures.bytes) c.in_err-number.ensures.missing in
    rw (← c.self.view_is) (c.from_residual.ensures ∙ ap (option_map {T = Numbered Exchange} (λ x. x.0)) (sym (nobody-awaits c.self.inside.setting.salt c.args.source m c.self.inside.under_way.exchanges.items short)))

-- the response has the token of the exchange of that number
token : (g : Over) (c : After-exchange g) → token_of c.self.inside.setting.salt c.in_ok-number.number ≡ c.args.response.now.token
token g c = rw (← c.token.ensures.bytes) c.in_ok-number.ensures.found

-- the numbers that were given fit eight bytes
few : (g : Over) (c : After-exchange g) → c.self.inside.under_way.exchanges.admitted < 2 ^ 64
few g c = subst (λ (n : ℕ). n < 2 ^ 64) (c.admitted-laws.ensures.exact ∙ ap (λ (t : Table Exchange). t.admitted) c.exchanges.ensures.exact) c.admitted-laws.type_inv

pub returns-in_err-exchange-clause-exact : goal.returns-in_err-exchange-clause-exact
returns-in_err-exchange-clause-exact g c =
    let m = c.args.response.now in
    let got = (goal.at.returns-in_err-exchange-clause-exact g c).After-exchange in
    rw (← c.self.view_is) (c.from_residual-in_err-exchange.ensures ∙ sym (awaits-none c.self.inside.setting.salt c.args.source m c.in_ok-number.number c.self.inside.under_way.exchanges c.in_ok-number.ensures.small (token g got) c.exchange.ensures.sound (few g got) (sym c.in_err-exchange.ensures.exact)))

pub returns-then-awaits-clause-exact : goal.returns-then-awaits-clause-exact
returns-then-awaits-clause-exact g c =
    let m = c.args.response.now in
    let got = (goal.at.returns-then-awaits-clause-exact g c).After-exchange in
    rw (← c.self.view_is) (sym (awaits-one c.self.inside.setting.salt c.args.source m c.in_ok-number.number c.self.inside.under_way.exchanges c.in_ok-number.ensures.small (token g got) c.exchange.ensures.sound (few g got) c.in_ok-exchange.exchange.now (sym c.in_ok-exchange.ensures.exact) true c.if-awaits.ensures))

pub returns-else-awaits-clause-exact : goal.returns-else-awaits-clause-exact
returns-else-awaits-clause-exact g c =
    let m = c.args.response.now in
    let got = (goal.at.returns-else-awaits-clause-exact g c).After-exchange in
    rw (← c.self.view_is) (sym (awaits-one c.self.inside.setting.salt c.args.source m c.in_ok-number.number c.self.inside.under_way.exchanges c.in_ok-number.ensures.small (token g got) c.exchange.ensures.sound (few g got) c.in_ok-exchange.exchange.now (sym c.in_ok-exchange.ensures.exact) false c.if-awaits.ensures))

pub returns-then-awaits-clause-unanswered : goal.returns-then-awaits-clause-unanswered
returns-then-awaits-clause-unanswered g c =
    let found : item_at c.in_ok-number.number c.args.self.now.exchanges ≡ Some c.in_ok-exchange.exchange.now = rw (← c.self.view_is) (sym c.in_ok-exchange.ensures.exact) in
    record {
      item = c.in_ok-exchange.exchange.now;
      found = found;
      holds = open-with c.args.response.now c.in_ok-exchange.exchange.now (same_endpoint c.in_ok-exchange.exchange.now.key.target.at c.args.source) (sym c.if-awaits.ensures);
    }
