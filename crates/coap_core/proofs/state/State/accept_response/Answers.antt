use Rattle.std.proofs.Common.{rules}
use Rattle.coap_core.proofs.Puts.{taken-fits}
use Rattle.coap_core.proofs.state.State.accept_response.Goals as goal

pub put_acceptance-send-requires : goal.put_acceptance-send-requires
put_acceptance-send-requires g c = record { fits = taken-fits c.args.arrival.message.now c.args.out.now.room c.requires.room }

pub remember-requires : goal.remember-requires
remember-requires g c = search rules

pub returns-in_ok-remember-clause-done : goal.returns-in_ok-remember-clause-done
returns-in_ok-remember-clause-done g c = search rules
