use Rattle.std.proofs.Common.{sym, ◌∙◌}
use Rattle.coap_dedup.proofs.Aging.{living-settled}
use Rattle.coap_dedup.proofs.records.release_dead.Goals as goal

pub returns-clause-left : goal.returns-clause-left
returns-clause-left c =
    let all = living-settled c.args.lifetime c.args.new.now.at c.dead.ring.items c.dead.invariant.in_order (sym c.dead-test.ensures) in
    λ i. record { items = (sym all ∙ c.dead.invariant.same) i; capacity = c.dead.invariant.capacity i }
