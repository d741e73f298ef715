use Rattle.std.proofs.Common.{◌≤◌, arith}
use Rattle.coap_limits.specs.Limits.{Limits, default_limits}
use Rattle.coap_model.specs.Shares.{IsShort, of_exchanges, of_ids, of_waiters}
use Rattle.coap_model.specs.WordExamples.{two_pending}
use Rattle.test_promises.proofs.shares.limits_of_exchanges_and_clients_are_exact.Goals as goal

-- two are neither three exchanges nor three clients, and there are ids
not-short : (limits : Limits) → 3 ≤ limits.exchanges → 3 ≤ limits.waiters → ¬ IsShort limits 0 two_pending
not-short limits exchanges waiters (of_exchanges full) = let few : limits.exchanges ≤ 2 = full in omega (arith, few, exchanges)
not-short limits exchanges waiters (of_waiters full) = let few : limits.waiters ≤ 2 = full in omega (arith, few, waiters)
not-short limits exchanges waiters (of_ids none) = none (record { free = omega arith })

pub returns : goal.returns
returns c =
    record {
      exchanges = of_exchanges (omega arith);
      exchanges_below = not-short (record default_limits { exchanges = 3 }) (omega arith) (omega arith);
      waiters = of_waiters (omega arith);
      waiters_below = not-short (record default_limits { waiters = 3 }) (omega arith) (omega arith);
    }
