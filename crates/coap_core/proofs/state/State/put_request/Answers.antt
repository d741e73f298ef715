use Rattle.std.proofs.Common.{◌≡◌, ◌∙◌, length, ap}
use Rattle.std.specs.Prelude.{option_map}
use Rattle.coap_forward.proofs.Tokens.{length-token_of}
use Rattle.coap_core.proofs.Widths.{form-fits}
use Rattle.coap_core.proofs.state.State.put_request.Goals as goal

pub returns-clause-exact : goal.returns-clause-exact
returns-clause-exact g c =
    let token = c.token_of-token.result in
    let eight : length token ≡ 8 = ap length c.token_of-token.ensures ∙ length-token_of _ _ in
    rw (← c.self.view_is, ← c.values.ensures.exact)
    (form-fits c.args.out.now c.put_forwarded.new.out _ token c.args.query.now.key.target (option_map (λ t. t.now) c.args.tag) c.args.request.now c.put_forwarded.result eight (rw c.key.ensures at c.put_forwarded.ensures))
