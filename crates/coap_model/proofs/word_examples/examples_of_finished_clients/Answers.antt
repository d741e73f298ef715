use Rattle.std.proofs.Common.{◌≡◌, true, false, refl}
use Rattle.coap_model.proofs.word_examples.examples_of_finished_clients.Goals as goal

pub returns : goal.returns
returns c =
    record {
      acknowledged = record { act = refl; outcome = refl };
      given_up = record { act = refl; outcome = refl };
      served = record { act = refl; outcome = refl };
      not_yet = λ l. let e : false ≡ true = l.outcome in cc;
      sent_again = λ l. let e : false ≡ true = l.outcome in cc;
    }
