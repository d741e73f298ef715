use Rattle.std.proofs.Common.{[]}
use Rattle.coap_core.proofs.proxy.Core.new.Goals as goal

pub invariant_of-result : goal.invariant_of-result
invariant_of-result g c =
    rw c.in_ok-state.ensures.exact
    (c.in_ok-state.ensures.limits, ([], c.new_proxies_carry_nothing.ensures.carried (record { limits = c.args.limits; routes = c.args.routes; first_id = c.args.first_id; salt = c.args.salt }) c.maps-laws.ensures.sound, tt), rw c.in_ok-state.ensures.exact at c.first_due-due.ensures)

pub returns-clause-carries : goal.returns-clause-carries
returns-clause-carries g c =
    rw c.in_ok-state.ensures.exact
    (c.new_proxies_carry_nothing.ensures.carried (record { limits = c.args.limits; routes = c.args.routes; first_id = c.args.first_id; salt = c.args.salt }) c.maps-laws.ensures.sound)

pub returns-clause-exact : goal.returns-clause-exact
returns-clause-exact g c = c.in_ok-state.ensures.exact
