use Rattle.std.proofs.Common.{arith}
use Rattle.coap_dedup.proofs.Aging.{length-living}
use Rattle.coap_dedup.proofs.Kept.{AreRecords-kept}
use Rattle.coap_dedup.proofs.Passing.{AreUpTo-kept}
use Rattle.coap_dedup.proofs.Shares.{count_from-living}
use Rattle.coap_dedup.proofs.laws.records_stay_so.Goals as goal

pub returns-clause-kept : goal.returns-clause-kept
returns-clause-kept c = AreRecords-kept

pub returns-clause-up_to : goal.returns-clause-up_to
returns-clause-up_to c = AreUpTo-kept

pub returns-clause-few : goal.returns-clause-few
returns-clause-few c = λ t now are. let within = are.within in omega (arith, length-living t.lifetime now t.items)

pub returns-clause-few_of_each : goal.returns-clause-few_of_each
returns-clause-few_of_each c = λ t from now are. let within = are.within_each from in omega (arith, count_from-living from t.lifetime now t.items)
