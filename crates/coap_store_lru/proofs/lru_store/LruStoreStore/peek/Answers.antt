use Rattle.std.proofs.Common.{◌≡◌, None, rules, sym, ap, ◌∙◌}
use Rattle.std.specs.Option.{option_map}
use Rattle.coap_store.specs.Entries.{Entry, stored_for}
use Rattle.coap_store_lru.proofs.Recency.{not_held}
use Rattle.coap_store_lru.proofs.lru_store.LruStoreStore.peek.Goals as goal

pub returns-in_err-own : goal.returns-in_err-own
returns-in_err-own g c =
    let s = c.args.self.now in
    let k = c.args.key.now in
    let none : None ≡ stored_for k s.recent.entries = ap (option_map (λ (e : Entry). e.1)) (sym (not_held k s.recent.entries (sym (s.are_those.indexed_are k) ∙ c.in_err-own.ensures.missing))) in
    search (rules, none)
