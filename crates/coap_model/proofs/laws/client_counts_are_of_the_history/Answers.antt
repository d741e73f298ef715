use Rattle.coap_message.specs.declared.kind.Kind.TheVariants.{Con, Non}
use Rattle.coap_model.proofs.CountsAndRoom.{exchanges-count, waiters-count}
use Rattle.coap_model.proofs.CountsOfHistory.{records-own}
use Rattle.coap_model.proofs.laws.client_counts_are_of_the_history.Goals as goal

pub returns : goal.returns
returns c =
    record {
      exchanges = λ actions w client. exchanges-count client actions w;
      waiters = λ actions w client. waiters-count client actions w;
      con_records = λ actions w from c. records-own actions w Con w.con_records from c c.con_records;
      non_records = λ actions w from c. records-own actions w Non w.non_records from c c.non_records;
    }
