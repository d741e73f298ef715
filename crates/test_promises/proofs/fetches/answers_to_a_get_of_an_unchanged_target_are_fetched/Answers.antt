use Rattle.test_promises.proofs.Fetching.{fetched-whole}
use Rattle.test_promises.proofs.fetches.answers_to_a_get_of_an_unchanged_target_are_fetched.Goals as goal

pub returns : goal.returns
returns c = record { whole = fetched-whole }
