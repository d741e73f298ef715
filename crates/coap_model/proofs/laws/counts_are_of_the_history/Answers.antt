use Rattle.coap_message.specs.declared.kind.Kind.TheVariants.{Con, Non}
use Rattle.coap_model.proofs.CountsAndRoom.{exchanges-length, waiters-length}
use Rattle.coap_model.proofs.CountsOfHistory.{store-entries, store-bytes, records-living}
use Rattle.coap_model.proofs.laws.counts_are_of_the_history.Goals as goal

pub returns : goal.returns
returns c =
    record {
      exchanges = exchanges-length;
      waiters = waiters-length;
      entries = store-entries;
      cached_bytes = store-bytes;
      con_records = λ actions w c. records-living actions w Con w.con_records c c.con_records;
      non_records = λ actions w c. records-living actions w Non w.non_records c c.non_records;
    }
