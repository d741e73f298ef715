use Rattle.coap_model.proofs.ForgedHits.{first_fetched}
use Rattle.test_promises.specs.Replies.{key_accepting, key_of_part}
use Rattle.test_promises.proofs.Fetching.{not_accepting, not_part, still_unchanged}
use Rattle.test_promises.proofs.fetches.fetches_for_another_key_are_refused.Goals as goal

pub returns : goal.returns
returns c = record { its_key = first_fetched; path = not_part; but_for_the_path = still_unchanged key_of_part; accept = not_accepting; but_for_the_accept = still_unchanged key_accepting }
