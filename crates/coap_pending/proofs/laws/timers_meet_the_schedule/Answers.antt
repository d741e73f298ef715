use Rattle.coap_pending.proofs.Schedule.{schedule-kept}
use Rattle.coap_pending.proofs.laws.timers_meet_the_schedule.Goals as goal

pub returns : goal.returns
returns c = schedule-kept
