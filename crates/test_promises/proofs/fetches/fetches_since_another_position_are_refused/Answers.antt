use Rattle.coap_model.proofs.ForgedHits.{first_fetched}
use Rattle.test_promises.proofs.Fetching.{earlier_unchanged, not_since}
use Rattle.test_promises.proofs.fetches.fetches_since_another_position_are_refused.Goals as goal

pub returns : goal.returns
returns c = record { its_position = first_fetched; another = not_since; but_for_the_position = earlier_unchanged }
