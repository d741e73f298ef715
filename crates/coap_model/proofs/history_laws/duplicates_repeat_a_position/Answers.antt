use Rattle.coap_model.proofs.Duplicates.{known-position, position-known}
use Rattle.coap_model.proofs.Repeats.{one-position, told-there, was-sent}
use Rattle.coap_model.proofs.history_laws.duplicates_repeat_a_position.Goals as goal

pub returns : goal.returns
returns c =
    record {
      known = known-position;
      each = position-known;
      one = λ setting past now client request p q all ordered onward. one-position setting past now client request all ordered onward p q;
      told = λ setting past now client request p known all ordered onward. told-there setting past now client request all ordered onward p known;
      sent = λ setting past now client request p all. was-sent setting past now client request all p;
    }
