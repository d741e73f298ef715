use Rattle.std.proofs.Common.{arith, sym, ◌∙◌}
use Rattle.coap_dedup.proofs.Aging.{length-living, living-from_place, living-past_place}
use Rattle.coap_dedup.proofs.records.count_dead.Goals as goal

pub search-init : goal.search-init
search-init c =
    let few = length-living c.args.lifetime c.args.now c.args.ring.now.items in
    record { past = omega arith; before = omega arith; within = omega arith }

pub search-preserved-then-lives_at : goal.search-preserved-then-lives_at
search-preserved-then-lives_at c =
    let from = living-from_place c.args.lifetime c.args.now c.args.ring.now.items _ c.requires (sym c.lives_at.ensures ∙ c.if-lives_at.true) in
    record { past = omega arith; before = omega arith; within = omega arith }

pub search-preserved : goal.search-preserved
search-preserved c =
    let past = living-past_place c.args.lifetime c.args.now c.args.ring.now.items _ c.requires (omega arith) (sym c.lives_at.ensures ∙ c.if-lives_at.false) in
    record { past = omega arith; before = omega arith; within = omega arith }
