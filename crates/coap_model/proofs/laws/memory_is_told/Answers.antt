use Rattle.coap_model.proofs.ReportsOfMemory.{step-told, wanting-told}
use Rattle.coap_model.proofs.laws.memory_is_told.Goals as goal

pub returns : goal.returns
returns c = record { step = step-told; wanting = wanting-told }
