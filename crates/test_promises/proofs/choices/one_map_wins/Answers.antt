use Rattle.test_promises.proofs.Choosing.{one-wins, winner-found}
use Rattle.test_promises.proofs.choices.one_map_wins.Goals as goal

pub returns : goal.returns
returns c = record { one = one-wins; found = winner-found }
