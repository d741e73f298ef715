use Rattle.std.proofs.Common.{◌≡◌, Bool, List, map, true, sym, ap, subst, ◌∙◌}
use Rattle.std.specs.Map.{lookup_entry, remove_entry}
use Rattle.std.specs.Option.{option_map}
use Rattle.std.specs.Prelude.{IfSome}
use Rattle.coap_store.specs.Digested.{Digested}
use Rattle.coap_store.specs.Entries.{Entry, entry_key}
use Rattle.coap_store.specs.Lists.{are_distinct}
use Rattle.coap_store_lru.specs.Recent.{AreOf, Recent, recent_of, shown}
use Rattle.coap_store_lru.proofs.Alike.{key_eq}
use Rattle.coap_store_lru.proofs.Recency.{lookup_entry-is, remove_entry-is}
use Rattle.coap_store_lru.proofs.Shown.{AreOf-removed, found-of, lookup_entry-shown, remove-shown}
use Rattle.coap_store_lru.proofs.recent.Recent.remove.Goals as goal

pub invariant_of-self : goal.invariant_of-self
invariant_of-self c =
    let es = c.self.inside.entries.entries in
    let left = ap (λ m. m.entries) c.pop_entry.ensures.entries in
    (subst (AreOf c.self.inside.secret) (sym left) (AreOf-removed c.self.inside.secret _ es c.self.invariant.0), ap (λ m. m.cap) c.pop_entry.ensures.entries ∙ c.self.invariant.1)

pub returns-clause-value : goal.returns-clause-value
returns-clause-value c =
    let k = c.args.key.now in
    let es = c.self.inside.entries.entries in
    let own : k.secret ≡ c.self.inside.secret = c.requires.own ∙ ap (λ r. r.secret) (sym c.self.view_is) in
    let all : AreOf k.secret es = subst (λ s. AreOf s es) (sym own) c.self.invariant.0 in
    rw (← c.self.view_is) (ap (option_map shown) (c.pop_entry.ensures.value ∙ ap (λ (eq : Digested → Digested → Bool). lookup_entry (eq k) es) key_eq) ∙ lookup_entry-shown k es all ∙ lookup_entry-is k.key (map shown es))

pub returns-clause-own : goal.returns-clause-own
returns-clause-own c =
    let es = c.self.inside.entries.entries in
    rw (← c.self.view_is) (subst (λ o. IfSome o (λ e. e.0.secret ≡ c.self.inside.secret)) (sym c.pop_entry.ensures.value) (found-of c.self.inside.secret _ es c.self.invariant.0))

pub returns-clause-entries : goal.returns-clause-entries
returns-clause-entries c =
    let k = c.args.key.now in
    let es = c.self.inside.entries.entries in
    let own : k.secret ≡ c.self.inside.secret = c.requires.own ∙ ap (λ r. r.secret) (sym c.self.view_is) in
    let all : AreOf k.secret es = subst (λ s. AreOf s es) (sym own) c.self.invariant.0 in
    let distinct : are_distinct entry_key (map shown es) ≡ true = subst (λ (r : Recent). are_distinct entry_key r.entries ≡ true) (sym c.self.view_is) c.requires.distinct in
    rw (← c.self.view_is) (ap (λ (l : List Entry). recent_of l c.self.inside.secret)
    (ap (λ m. map shown m.entries) c.pop_entry.ensures.entries ∙ ap (λ (eq : Digested → Digested → Bool). map shown (remove_entry (eq k) es)) key_eq ∙ remove-shown k es all ∙ remove_entry-is k.key (map shown es) distinct))
