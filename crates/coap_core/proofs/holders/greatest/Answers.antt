use Rattle.std.proofs.Common.{◌^◌, arith}
use Rattle.coap_core.specs.Holders.{owners}
use Rattle.coap_core.specs.Holdings.{AreOf}
use Rattle.coap_core.proofs.Greatest.{are-permuted, few-of, greatest-there, none-there}
use Rattle.coap_core.proofs.Grouping.{sorted-grouped, sorted-rising}
use Rattle.coap_core.proofs.holders.greatest.Given.{Over}
use Rattle.coap_core.proofs.holders.greatest.Goals.{After-as_slice}
use Rattle.coap_core.proofs.holders.greatest.Goals as goal

-- what is listed is of the items of the table, in any order
are : (g : Over) (c : After-as_slice g) → AreOf (owners c.args.table c.args.core.now) c.as_slice.result.now
are g c = rw c.as_slice.ensures.value (are-permuted _ _ _ c.sort_unstable.ensures.permutation c.list.ensures.listed)

pub most_of-requires-clause-grouped : goal.most_of-requires-clause-grouped
most_of-requires-clause-grouped g c = rw c.as_slice.ensures.value (sorted-grouped _ c.sort_unstable.ensures.sorted)

pub most_of-requires-clause-rising : goal.most_of-requires-clause-rising
most_of-requires-clause-rising g c = rw c.as_slice.ensures.value (sorted-rising _ c.sort_unstable.ensures.sorted)

pub most_of-requires-clause-some : goal.most_of-requires-clause-some
most_of-requires-clause-some g c = (are g c).some

pub most_of-requires-clause-few : goal.most_of-requires-clause-few
most_of-requires-clause-few g c =
    let fit = c.tables_fit.ensures c.args.table in
    let fits = c.ranges.room.fits in
    few-of (owners c.args.table c.args.core.now) _ (2 ^ 64) (are g c) (omega (arith, fit, c.requires.fits, fits))

pub returns-clause-none : goal.returns-clause-none
returns-clause-none g c = none-there _ _ c.most_of.result (are g (goal.at.returns-clause-none g c).After-as_slice) c.most_of.ensures.none

pub returns-clause-most : goal.returns-clause-most
returns-clause-most g c = greatest-there _ _ c.most_of.result (are g (goal.at.returns-clause-most g c).After-as_slice) c.most_of.ensures.most
