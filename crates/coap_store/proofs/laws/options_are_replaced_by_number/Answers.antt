use Rattle.coap_store.proofs.Updates.{AreOptions-updated, of_number-updated}
use Rattle.coap_store.proofs.laws.options_are_replaced_by_number.Goals as goal

pub returns : goal.returns
returns c = record { numbers = λ n newer older are. of_number-updated n 0 newer older are; in_order = AreOptions-updated 0 }
