use Rattle.coap_dedup.proofs.Apart.{record_of-each}
use Rattle.coap_dedup.proofs.Passing.{found-is_of, kept-found, kept-others}
use Rattle.coap_dedup.proofs.laws.what_is_kept_is_found.Goals as goal

pub returns-clause-kept : goal.returns-clause-kept
returns-clause-kept c = kept-found

pub returns-clause-others : goal.returns-clause-others
returns-clause-others c = kept-others

pub returns-clause-of_that_message : goal.returns-clause-of_that_message
returns-clause-of_that_message c = found-is_of

pub returns-clause-each : goal.returns-clause-each
returns-clause-each c = record_of-each
