use Rattle.coap_store.specs.Lists.{cut}
use Rattle.coap_store.proofs.Cuts.{cut-is-longest}
use Rattle.test_promises.proofs.Choosing.{one-longest}
use Rattle.test_promises.proofs.choices.one_beginning_is_longest.Goals as goal

pub returns : goal.returns
returns g c =
    record {
      one = one-longest;
      kept = λ size bytes count xs ys longest. one-longest size bytes count xs ys (cut size bytes count xs) longest (cut-is-longest size bytes count xs);
    }
