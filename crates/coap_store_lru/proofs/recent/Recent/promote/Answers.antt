use Rattle.std.proofs.Common.{◌≡◌, Bool, List, map, true, sym, ap, subst, ◌∙◌}
use Rattle.lru.specs.LruCache.{promoted}
use Rattle.coap_store.specs.Digested.{Digested}
use Rattle.coap_store.specs.Entries.{Entry, entry_key}
use Rattle.coap_store.specs.Lists.{are_distinct}
use Rattle.coap_store_lru.specs.Recent.{AreOf, Recent, recent_of, shown}
use Rattle.coap_store_lru.proofs.Alike.{key_eq}
use Rattle.coap_store_lru.proofs.Recency.{promoted-is}
use Rattle.coap_store_lru.proofs.Shown.{AreOf-promoted, promoted-shown}
use Rattle.coap_store_lru.proofs.recent.Recent.promote.Goals as goal

pub invariant_of-self : goal.invariant_of-self
invariant_of-self c =
    let es = c.self.inside.entries.entries in
    let put = ap (λ m. m.entries) c.promote.ensures.entries in
    (subst (AreOf c.self.inside.secret) (sym put) (AreOf-promoted c.self.inside.secret _ es c.self.invariant.0), ap (λ m. m.cap) c.promote.ensures.entries ∙ c.self.invariant.1)

pub returns : goal.returns
returns c =
    let k = c.args.key.now in
    let es = c.self.inside.entries.entries in
    let own : k.secret ≡ c.self.inside.secret = c.requires.own ∙ ap (λ r. r.secret) (sym c.self.view_is) in
    let all : AreOf k.secret es = subst (λ s. AreOf s es) (sym own) c.self.invariant.0 in
    let distinct : are_distinct entry_key (map shown es) ≡ true = subst (λ (r : Recent). are_distinct entry_key r.entries ≡ true) (sym c.self.view_is) c.requires.distinct in
    rw (← c.self.view_is) (ap (λ (l : List Entry). recent_of l c.self.inside.secret)
    (ap (λ m. map shown m.entries) c.promote.ensures.entries ∙ ap (λ (eq : Digested → Digested → Bool). map shown (promoted (eq k) es)) key_eq ∙ promoted-shown k es all ∙ promoted-is k.key (map shown es) distinct))
