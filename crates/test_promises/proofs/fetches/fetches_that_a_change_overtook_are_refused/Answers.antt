use Rattle.test_promises.proofs.Fetching.{not_overtaken, overtaken_answered, overtaken_get, quiet_fetched}
use Rattle.test_promises.proofs.fetches.fetches_that_a_change_overtook_are_refused.Goals as goal

pub returns : goal.returns
returns c = record { unchanged = quiet_fetched; overtaken = not_overtaken; but_for_the_change = (overtaken_answered, overtaken_get) }
