use Rattle.test_promises.proofs.Fetching.{get_fetched, not_by_put, put_answered, put_unchanged}
use Rattle.test_promises.proofs.fetches.fetches_by_another_method_are_refused.Goals as goal

pub returns : goal.returns
returns c = record { by_a_get = get_fetched; by_a_put = not_by_put; but_for_its_method = (put_answered, put_unchanged) }
