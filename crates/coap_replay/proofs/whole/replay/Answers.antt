use Rattle.coap_replay.proofs.AllLines.{wholly}
use Rattle.coap_replay.proofs.whole.replay.Goals as goal

pub returns-clause-replayed : goal.returns-clause-replayed
returns-clause-replayed g c = wholly _ _ _ _ _ _ _ c.replay_turns.ensures.replayed
