use Rattle.std.proofs.Common.{◌^◌, ◌-◌, Some, drop, []}
use Rattle.coap_endpoint.specs.declared.endpoint.Ip.TheVariants.{V4}
use Rattle.coap_core.specs.Holdings.{IsOfFirst}
use Rattle.coap_core.proofs.Sums.{step-first, step-fits, step-most}
use Rattle.coap_core.proofs.most.most_of.Goals as goal

pub sum_with-next-requires : goal.sum_with-next-requires
sum_with-next-requires c = step-fits c.loop-place.place c.args.holdings.now _ c.loop-place.sum (2 ^ 64) c.loop-place-test.true c.loop-place.auto.place c.requires.some c.requires.few c.loop-place.invariant.sum

pub loop-place-preserved : goal.loop-place-preserved
loop-place-preserved c =
    let sum : IsOfFirst (drop (c.loop-place.place - 1) c.args.holdings.now) (Some c.sum_with-next.result) =
    rw c.sum_with-next.ensures (step-first c.loop-place.place c.args.holdings.now _ c.loop-place.sum c.loop-place-test.true c.loop-place.auto.place c.requires.grouped c.requires.some c.loop-place.invariant.sum) in
    record {
      sum = sum;
      most = rw c.greater_of-most.ensures (step-most c.loop-place.place c.args.holdings.now (record { at = record { ip = V4 []; port = 0 }; count = 0 }) c.loop-place.most c.sum_with-next.result c.loop-place-test.true c.loop-place.auto.place c.requires.rising c.requires.some sum c.loop-place.invariant.most);
    }
