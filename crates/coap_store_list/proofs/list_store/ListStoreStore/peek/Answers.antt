use Rattle.std.proofs.Common.{sym, ap}
use Rattle.std.specs.Option.{option_map}
use Rattle.coap_store.specs.Entries.{Entry, entry_key}
use Rattle.coap_store.specs.Lists.{has_key}
use Rattle.coap_store.proofs.Found.{IsTaken, position-none, position-taken}
use Rattle.coap_store_list.proofs.list_store.ListStoreStore.peek.Goals as goal

pub returns-in-Some : goal.returns-in-Some
returns-in-Some c =
    let k = c.args.key.now in
    let items = c.args.self.now.entries.items in
    let place = c.in-Some.place in
    let is : IsTaken entry_key k items place c.index.result.now = position-taken entry_key k items place c.index.result.now c.args.self.now.distinct (rw c.deref.ensures.value at (sym c.in-Some.ensures)) c.index.ensures in
    sym (ap (option_map (λ (e : Entry). e.1)) is.found)

pub returns-in-None : goal.returns-in-None
returns-in-None c = sym (ap (option_map (λ (e : Entry). e.1)) (position-none (has_key entry_key c.args.key.now) c.args.self.now.entries.items (rw c.deref.ensures.value at (sym c.in-None.ensures))))
