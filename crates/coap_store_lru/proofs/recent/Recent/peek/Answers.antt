use Rattle.std.proofs.Common.{◌≡◌, Bool, map, sym, ap, subst, ◌∙◌}
use Rattle.std.specs.Map.{lookup}
use Rattle.coap_store.specs.Digested.{Digested}
use Rattle.coap_store_lru.specs.Recent.{AreOf, shown}
use Rattle.coap_store_lru.proofs.Alike.{key_eq}
use Rattle.coap_store_lru.proofs.Recency.{lookup-is}
use Rattle.coap_store_lru.proofs.Shown.{lookup-shown}
use Rattle.coap_store_lru.proofs.recent.Recent.peek.Goals as goal

pub returns : goal.returns
returns c =
    let k = c.args.key.now in
    let es = c.self.inside.entries.entries in
    let own : k.secret ≡ c.self.inside.secret = c.requires.own ∙ ap (λ r. r.secret) (sym c.self.view_is) in
    let all : AreOf k.secret es = subst (λ s. AreOf s es) (sym own) c.self.invariant.0 in
    rw (← c.self.view_is) (c.peek.ensures ∙ ap (λ (eq : Digested → Digested → Bool). lookup (eq k) es) key_eq ∙ lookup-shown k es all ∙ lookup-is k.key (map shown es))
