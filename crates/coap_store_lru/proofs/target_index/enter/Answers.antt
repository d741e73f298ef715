use Rattle.std.proofs.Common.{◌≡◌, ◌≢◌, ◌&&◌, nat_eq, length, is_ok, Some, None, rules, sym, ap, ◌∙◌}
use Rattle.std.specs.HashMap.{get}
use Rattle.std.specs.HashMap.Entry.{entry_value}
use Rattle.coap_store.specs.Digested.{same_digested}
use Rattle.coap_store_lru.specs.Indexing.{keys_in}
use Rattle.coap_store_lru.proofs.Groups.{filled-put, more-opened, still-keys}
use Rattle.coap_store_lru.proofs.target_index.enter.Goals as goal

pub returns-in-Occupied-clause-filled : goal.returns-in-Occupied-clause-filled
returns-in-Occupied-clause-filled g c =
    let found : get nat_eq c.args.groups.now c.args.at ≡ Some c.into_mut.result.now = sym c.in_ok-entry.ensures.value ∙ ap entry_value c.in-Occupied.is ∙ c.into_mut.ensures.value in
    let some : length (keys_in c.add.new.self) ≢ 0 = still-keys (keys_in c.into_mut.result.now) (keys_in c.add.new.self) (λ k. is_ok c.add.result && same_digested c.args.key k) c.add.ensures (c.requires c.args.at c.into_mut.result.now found) in
    search (rules, filled-put c.args.groups.now c.requires c.args.at c.add.new.self some)

pub returns-in-Vacant-clause-more : goal.returns-in-Vacant-clause-more
returns-in-Vacant-clause-more g c =
    let none : get nat_eq c.args.groups.now c.args.at ≡ None = search rules in
    search (rules, more-opened c.args.groups.now c.args.at c.args.key c.of.result c.of.ensures none)
