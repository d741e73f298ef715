use Rattle.coap_recording.proofs.Replaying.{replayable}
use Rattle.coap_recording.proofs.laws.recorded_runs_are_replayable.Goals as goal

pub returns : goal.returns
returns g c = replayable g.P.Port.gives g.P.Port.takes g.P.Port.clock g.W.Write.contents
