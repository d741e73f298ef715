use Rattle.std.specs.Option.{option_copied}
use Rattle.coap_recording.proofs.Heading.{IsAdded, left}
use Rattle.coap_recording.proofs.header.put_config.Given as goal

abbrev pub invariant-loop-rest : goal.invariant-loop-rest
invariant-loop-rest l = IsAdded l.fn.out.items l.fn.config l.out.items (option_copied l.rest)

abbrev pub decreases-loop-rest : goal.decreases-loop-rest
decreases-loop-rest l = left l.rest
