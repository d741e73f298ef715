use Rattle.std.proofs.Common.{◌≡◌, ◌-◌, List, map, option_map, slice_get, take, length, sym, ap, subst, ◌∙◌}
use Rattle.std.specs.Prelude.{IfSome}
use Rattle.std.proofs.lemmas.List.{length-map, take-map}
use Rattle.std.proofs.lemmas.Option.{slice_get-map}
use Rattle.coap_store.specs.Entries.{Entry}
use Rattle.coap_store_lru.specs.Recent.{recent_of, shown}
use Rattle.coap_store_lru.proofs.Shown.{AreOf-at}
use Rattle.coap_store_lru.proofs.recent.Recent.remove_last.Goals as goal

pub returns-clause-value : goal.returns-clause-value
returns-clause-value c =
    let es = c.self.inside.entries.entries in
    rw (← c.self.view_is) (ap (option_map shown) c.pop_lru.ensures.value ∙ sym (slice_get-map shown es (length es - 1)) ∙ ap (λ n. slice_get (map shown es) (n - 1)) (sym (length-map es shown)))

pub returns-clause-own : goal.returns-clause-own
returns-clause-own c =
    let es = c.self.inside.entries.entries in
    rw (← c.self.view_is) (subst (λ o. IfSome o (λ e. e.0.secret ≡ c.self.inside.secret)) (sym c.pop_lru.ensures.value) (AreOf-at c.self.inside.secret es (length es - 1) c.self.invariant.0))

pub returns-clause-entries : goal.returns-clause-entries
returns-clause-entries c =
    let es = c.self.inside.entries.entries in
    rw (← c.self.view_is) (ap (λ (l : List Entry). recent_of l c.self.inside.secret)
    (ap (λ m. map shown m.entries) c.pop_lru.ensures.entries ∙ sym (take-map shown (length es - 1) es) ∙ ap (λ n. take (n - 1) (map shown es)) (sym (length-map es shown))))
