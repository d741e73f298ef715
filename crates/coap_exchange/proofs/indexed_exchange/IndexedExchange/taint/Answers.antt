use Rattle.std.proofs.Common.{◌≡◌, ◌∙◌, ap, sym, subst}
use Rattle.coap_endpoint.specs.declared.endpoint.Endpoint.{Endpoint}
use Rattle.coap_store.specs.declared.key.CacheKey.{CacheKey}
use Rattle.coap_pending.specs.declared.exchange.Exchange.{Exchange}
use Rattle.coap_exchange.proofs.Openers.{client-tainted}
use Rattle.coap_exchange.proofs.Ordering.{key-tainted}
use Rattle.coap_exchange.proofs.indexed_exchange.IndexedExchange.taint.Goals as goal

pub invariant_of-self : goal.invariant_of-self
invariant_of-self c =
    let l = c.self.inside in
    let client = ap (λ (x : Exchange). x.client) c.taint.ensures.exact ∙ client-tainted c.args.target.now l.exchange in
    let key = ap (λ (x : Exchange). x.key) c.taint.ensures.exact ∙ key-tainted c.args.target.now l.exchange in
    (subst (λ (e : Endpoint). l.client ≡ e) (sym client) c.self.invariant.0, subst (λ (k : CacheKey). l.origin ≡ k.target.at) (sym key) c.self.invariant.1)
