use Rattle.std.proofs.Common.{◌≡◌, nat_eq, Some, None, refl, sym, ap, ◌∙◌}
use Rattle.std.specs.Option.{option_map}
use Rattle.indexmap.specs.IndexMap.{Updates}
use Rattle.coap_pending.specs.Table.{by_number}
use Rattle.coap_pending.proofs.ByNumber.{by_number-removed, item_at-by_number}
use Rattle.coap_exchange.proofs.Places.{of-found, without-absent}
use Rattle.coap_exchange.proofs.table.remove_from.Goals as goal

pub returns-in-Some-clause-hasher : goal.returns-in-Some-clause-hasher
returns-in-Some-clause-hasher g c = c.swap_remove_index.ensures.room.1

pub returns-in_default-clause-hasher : goal.returns-in_default-clause-hasher
returns-in_default-clause-hasher g c = refl

pub returns-in-Some-clause-removed : goal.returns-in-Some-clause-removed
returns-in-Some-clause-removed g c =
    let old = c.args.items.now in
    let new = c.swap_remove_index.new.self in
    let taken = c.swap_remove_index.result in
    let number : option_map (λ e. e.0) taken ≡ Some c.args.number = ap (option_map (λ e. e.0)) c.swap_remove_index.ensures.entry ∙ c.in-Some.ensures.found in
    let gone = of-found (λ n. Updates nat_eq old new n None) c.args.number taken number c.swap_remove_index.ensures.updates in
    by_number-removed c.args.number old.entries new.entries c.requires c.swap_remove_index.ensures.unique gone.0

pub returns-in_default-clause-removed : goal.returns-in_default-clause-removed
returns-in_default-clause-removed g c =
    let es = c.args.items.now.entries in
    sym (without-absent c.args.number (by_number es) (item_at-by_number c.args.number es ∙ c.in_default.ensures.missing))
