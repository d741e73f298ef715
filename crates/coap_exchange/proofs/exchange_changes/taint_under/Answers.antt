use Rattle.std.proofs.Common.{◌≡◌, nat_eq, Some, None, ap, ◌∙◌}
use Rattle.std.specs.Map.{set_value}
use Rattle.coap_pending.specs.Exchanges.{tainted_by}
use Rattle.coap_exchange.proofs.Places.{IsAt-of}
use Rattle.coap_exchange.proofs.exchange_changes.taint_under.Goals as goal

pub unreachable-requires : goal.unreachable-requires
unreachable-requires c =
    let at = IsAt-of c.args.number c.args.exchanges.now.entries c.in-Some.place c.get_index_mut.ensures.unique c.in-Some.ensures.found in
    let none : None ≡ Some at.item = c.in-None.ensures.value ∙ at.here in
    absurd (cc)

pub returns-clause-found : goal.returns-clause-found
returns-clause-found c =
    let at = IsAt-of c.args.number c.args.exchanges.now.entries c.in-Some.place c.get_index_mut.ensures.unique c.in-Some.ensures.found in
    let same : Some c.in-Some-get_index_mut.exchange.now ≡ Some at.item = c.in-Some-get_index_mut.ensures.value ∙ at.here in
    let one : c.in-Some-get_index_mut.exchange.now ≡ at.item = cc in
    rw at.found (at.written c.taint.new.self ∙ ap (set_value (nat_eq c.args.number) c.args.exchanges.now.entries) (c.taint.ensures.exact ∙ ap (tainted_by c.args.target.now) one))

pub returns-clause-missing : goal.returns-clause-missing
returns-clause-missing c =
    let at = IsAt-of c.args.number c.args.exchanges.now.entries c.in-Some.place c.get_index_mut.ensures.unique c.in-Some.ensures.found in
    rw at.found tt
