use Rattle.test_promises.proofs.Promising.{not_within, otherwise_within, within-whole}
use Rattle.test_promises.proofs.promises.a_history_without_a_cache_is_refused.Goals as goal

pub returns : goal.returns
returns c = record { no_cache = not_within; but_for_the_cache = otherwise_within; whole = within-whole }
