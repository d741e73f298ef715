use Rattle.std.proofs.Common.{◌≤◌, arith}
use Rattle.coap_model.specs.Examples.{client}
use Rattle.coap_model.proofs.ForgedWords.{two_within}
use Rattle.coap_model.proofs.word_examples.histories_above_a_limit_are_refused.Goals as goal

pub returns : goal.returns
returns c =
    record {
      of_two = two_within;
      exchanges = λ w. let few : 2 ≤ 1 = w.exchanges in omega (arith, few);
      waiters = λ w. let few : 2 ≤ 1 = w.waiters in omega (arith, few);
      con_records = λ w. let few : 2 ≤ 1 = w.con_records in omega (arith, few);
      non_records = λ w. let few : 2 ≤ 1 = w.non_records in omega (arith, few);
      client_exchanges = λ w. let few : 2 ≤ 1 = w.client_exchanges (client 1) in omega (arith, few);
      client_waiters = λ w. let few : 2 ≤ 1 = w.client_waiters (client 1) in omega (arith, few);
      client_con_records = λ w. let few : 2 ≤ 1 = w.client_con_records (client 1) in omega (arith, few);
      client_non_records = λ w. let few : 2 ≤ 1 = w.client_non_records (client 1) in omega (arith, few);
    }
