use Rattle.std.proofs.Common.{◌≡◌, nat_eq, Some, None, Option, ap, subst, ◌∙◌}
use Rattle.std.specs.Prelude.{IfSome}
use Rattle.std.specs.Map.{set_value}
use Rattle.coap_pending.specs.declared.exchange.Exchange.{Exchange}
use Rattle.coap_pending.specs.Exchanges.{after_transition, CanChange}
use Rattle.coap_exchange.specs.Index.{keys_at}
use Rattle.coap_exchange.proofs.Places.{IsAt-of}
use Rattle.coap_exchange.proofs.exchange_changes.change_under.Goals as goal

pub change-requires : goal.change-requires
change-requires c =
    let at = IsAt-of c.args.number c.args.exchanges.now.entries c.in-Some.place c.get_index_mut.ensures.unique c.in-Some.ensures.found in
    let same : Some c.in-Some-get_index_mut.exchange.now ≡ Some at.item = c.in-Some-get_index_mut.ensures.value ∙ at.here in
    let one : at.item ≡ c.in-Some-get_index_mut.exchange.now = cc in
    subst (CanChange c.args.change) one (subst (λ (o : Option Exchange). IfSome o (CanChange c.args.change)) at.found c.requires)

pub unreachable-requires : goal.unreachable-requires
unreachable-requires c =
    let at = IsAt-of c.args.number c.args.exchanges.now.entries c.in-Some.place c.get_index_mut.ensures.unique c.in-Some.ensures.found in
    let none : None ≡ Some at.item = c.in-None.ensures.value ∙ at.here in
    absurd (cc)

pub returns-clause-found : goal.returns-clause-found
returns-clause-found c =
    let at = IsAt-of c.args.number c.args.exchanges.now.entries c.in-Some.place c.get_index_mut.ensures.unique c.in-Some.ensures.found in
    let same : Some c.in-Some-get_index_mut.exchange.now ≡ Some at.item = c.in-Some-get_index_mut.ensures.value ∙ at.here in
    let one : c.in-Some-get_index_mut.exchange.now ≡ at.item = cc in
    rw at.found (at.written c.change.new.self ∙ ap (set_value (nat_eq c.args.number) c.args.exchanges.now.entries) (c.change.ensures.exact ∙ ap (after_transition c.args.change) one))

pub returns-clause-missing : goal.returns-clause-missing
returns-clause-missing c =
    let at = IsAt-of c.args.number c.args.exchanges.now.entries c.in-Some.place c.get_index_mut.ensures.unique c.in-Some.ensures.found in
    rw at.found tt

pub returns-clause-keys : goal.returns-clause-keys
returns-clause-keys c =
    let at = IsAt-of c.args.number c.args.exchanges.now.entries c.in-Some.place c.get_index_mut.ensures.unique c.in-Some.ensures.found in
    let same : Some c.in-Some-get_index_mut.exchange.now ≡ Some at.item = c.in-Some-get_index_mut.ensures.value ∙ at.here in
    let one : c.in-Some-get_index_mut.exchange.now ≡ at.item = cc in
    rw at.found (c.keys_of.ensures.exact ∙ ap (λ x. keys_at c.args.secret (Some x)) (c.change.ensures.exact ∙ ap (after_transition c.args.change) one))
