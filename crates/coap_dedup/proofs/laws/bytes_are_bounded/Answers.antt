use Rattle.coap_dedup.proofs.Passing.{bytes-bounded, bytes-kept}
use Rattle.coap_dedup.proofs.laws.bytes_are_bounded.Goals as goal

pub returns-clause-kept : goal.returns-clause-kept
returns-clause-kept c = bytes-kept

pub returns-clause-all : goal.returns-clause-all
returns-clause-all c = bytes-bounded
