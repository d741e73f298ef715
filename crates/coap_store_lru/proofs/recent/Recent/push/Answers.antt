use Rattle.std.proofs.Common.{◌≡◌, Bool, List, map, true, is_some, sym, ap, subst, ◌∙◌}
use Rattle.std.specs.Map.{lookup}
use Rattle.std.specs.Option.{option_map}
use Rattle.lru.specs.LruCache.{displaced, put_entries}
use Rattle.coap_store.specs.Digested.{Digested}
use Rattle.coap_store.specs.Entries.{Entry, entry_key}
use Rattle.coap_store.specs.Lists.{are_distinct}
use Rattle.coap_store_lru.specs.Recent.{AreOf, Recent, recent_of, shown}
use Rattle.coap_store_lru.proofs.Alike.{key_eq}
use Rattle.coap_store_lru.proofs.Pushing.{AreOf-put, displaced-shown, put-shown, refused-new}
use Rattle.coap_store_lru.proofs.recent.Recent.push.Goals as goal

pub returns-clause-err_new : goal.returns-clause-err_new
returns-clause-err_new c =
    let k = c.args.key in
    let es = c.self.inside.entries.entries in
    let own : k.secret ≡ c.self.inside.secret = c.requires.own ∙ ap (λ r. r.secret) (sym c.self.view_is) in
    let all : AreOf k.secret es = subst (λ t. AreOf t es) (sym own) c.self.invariant.0 in
    rw (← c.self.view_is) (refused-new k es all
    (λ some. let refused = c.in-Err.ensures.succeeds (ap (λ (eq : Digested → Digested → Bool). is_some (lookup (eq k) es)) key_eq ∙ some) in cc))

pub invariant_of-self : goal.invariant_of-self
invariant_of-self c =
    let k = c.args.key in
    let old = c.self.inside.entries in
    let own : k.secret ≡ c.self.inside.secret = c.requires.own ∙ ap (λ r. r.secret) (sym c.self.view_is) in
    let all : AreOf k.secret old.entries = subst (λ t. AreOf t old.entries) (sym own) c.self.invariant.0 in
    let put = AreOf-put old k c.args.stored c.len-laws.result c.len-laws.ensures.len c.len-laws.ensures.fits c.self.invariant.1 all in
    let are = ap (λ m. m.entries) c.in-Ok.ensures.entries ∙ ap (λ (eq : Digested → Digested → Bool). put_entries eq old k c.args.stored) key_eq in
    (subst (λ t. AreOf t c.push.new.self.entries) own (subst (AreOf k.secret) (sym are) put), ap (λ m. m.cap) c.in-Ok.ensures.entries ∙ c.self.invariant.1)

pub returns-in-Ok-clause-old : goal.returns-in-Ok-clause-old
returns-in-Ok-clause-old c =
    let k = c.args.key in
    let old = c.self.inside.entries in
    let own : k.secret ≡ c.self.inside.secret = c.requires.own ∙ ap (λ r. r.secret) (sym c.self.view_is) in
    let all : AreOf k.secret old.entries = subst (λ t. AreOf t old.entries) (sym own) c.self.invariant.0 in
    rw (← c.self.view_is) (ap (option_map shown) (c.in-Ok.ensures.old ∙ ap (λ (eq : Digested → Digested → Bool). displaced eq old k c.args.stored) key_eq)
    ∙ displaced-shown old k c.args.stored c.len-laws.result c.len-laws.ensures.len c.len-laws.ensures.fits c.self.invariant.1 all)

pub returns-in-Ok-clause-ok : goal.returns-in-Ok-clause-ok
returns-in-Ok-clause-ok c =
    let k = c.args.key in
    let old = c.self.inside.entries in
    let own : k.secret ≡ c.self.inside.secret = c.requires.own ∙ ap (λ r. r.secret) (sym c.self.view_is) in
    let all : AreOf k.secret old.entries = subst (λ t. AreOf t old.entries) (sym own) c.self.invariant.0 in
    let distinct : are_distinct entry_key (map shown old.entries) ≡ true = subst (λ (r : Recent). are_distinct entry_key r.entries ≡ true) (sym c.self.view_is) c.requires.distinct in
    rw (← c.self.view_is) (ap (λ (l : List Entry). recent_of l c.self.inside.secret)
    (ap (λ m. map shown m.entries) c.in-Ok.ensures.entries ∙ ap (λ (eq : Digested → Digested → Bool). map shown (put_entries eq old k c.args.stored)) key_eq
    ∙ put-shown old k c.args.stored c.len-laws.result c.len-laws.ensures.len c.len-laws.ensures.fits c.self.invariant.1 all distinct))
